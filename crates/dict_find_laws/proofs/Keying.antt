-- Keys are hashed, at any depth.
use Rattle.std.proofs.Common.{◌≡◌, ◌≤◌, ◌⊎◌, inl, inr, ℕ, zero, suc, ◌+◌, ◌-◌, Bool, true, false, ℤ, List, [], ◌∷◌, ◌++◌, length, Option, Some, pos, refl, sym, ap, ◌∙◌, subst, arith, length-append}
use Rattle.std.specs.Prelude.{slice_get, if◌then◌else◌, ◌==◌, codes, replicate}
use Rattle.std.proofs.lemmas.Bool.Decides.{nat_tests}
use Rattle.std.proofs.lemmas.List.{length-replicate}
use Rattle.ann_element.specs.declared.element.Element.{Element}
use Rattle.csub_tree.specs.State.{Value, Unset, Word, Block, Core}
use Rattle.csub_tree.specs.Operation.{is_unset}
use Rattle.csub_tree.specs.Statement.{read}
use Rattle.csub_tree.specs.declared.tree.COperand.TheVariants.{Var}
use Rattle.ll_build.specs.Build.{word as word_operand, block_of, graph_of}
use Rattle.ll_code.specs.Machine.{given}
use Rattle.ll_code.specs.State.{Frame, Calling, At, Returning, Goes}
use Rattle.ll_code.specs.declared.program.LlGraph.{LlGraph}
use Rattle.ll_code.specs.declared.program.LlType.{LlType}
use Rattle.ll_code.specs.declared.program.LlType.TheVariants as type
use Rattle.ll_code.specs.declared.program.LlOp.{LlOp}
use Rattle.ll_code.specs.declared.program.LlOp.TheVariants as op
use Rattle.ll_code.specs.declared.program.LlExit.{LlExit}
use Rattle.ll_code.specs.declared.program.LlExit.TheVariants as exit
use Rattle.ll_code.specs.declared.program.LlProgram.{LlProgram}
use Rattle.ll_leads.specs.Path.{Leads}
use Rattle.ll_leads.proofs.Ways.{Comes, on, one, enter}
use Rattle.ll_texts.specs.Texts.{IsText}
use Rattle.ll_texts.specs.Stands.{Stands as LowStands, text as low_text, missing as low_missing}
use Rattle.rpy_tree.specs.Value.{Value as Meant, Text}
use Rattle.rpy_meaning.specs.Sequences.{parts_of}
use Rattle.rtyper_layout.specs.declared.kind.Kind.{Kind}
use Rattle.rtyper_layout.specs.declared.kind.Kind.TheVariants as kind
use Rattle.rtyper_layout.specs.declared.layout.Layout.{Layout}
use Rattle.rtyper_layout.specs.Dicts.{is_plain}
use Rattle.rtyper_layout.specs.Kinds.{kind_seen}
use Rattle.rtyper_layout.specs.Layout.{is_tuple}
use Rattle.rtyper_layout.specs.Types.{field_type, shape, type_of, type_seen}
use Rattle.rtyper_op.specs.Mapped.{mixed, with_bytes}
use Rattle.rtyper_data.specs.declared.found.Found.{Found}
use Rattle.rtyper_data.specs.declared.small.Keyed.TheVariants as keyed
use Rattle.rtyper_data.specs.declared.small.Small.TheVariants as small
use Rattle.rtyper_data.specs.Converting.{by_small}
use Rattle.rtyper_data.specs.Finding.{same_type}
use Rattle.rtyper_data.specs.Graphs.{body_of, fields_at}
use Rattle.rtyper_data.specs.Seen.{Writing, writing}
use Rattle.rtyper_dict.specs.Graphs.{dict_graph}
use Rattle.rtyper_dict.specs.Hashing.{hash_graph, key_item, of_text, of_tuple, of_word, text_graph, tuple_graph, tuple_made, tuple_mixed}
use Rattle.rtyper_dict.specs.Parts.{keyed_number}
use Rattle.list_shape.specs.Shapes.{taking}
use Rattle.lower_laws.specs.Values.{is_plain as is_plain_kind}
use Rattle.lower_laws.proofs.Doing.{after, same_type_is}
use Rattle.lower_laws.proofs.Stayed.{field_is}
use Rattle.lower_laws.proofs.Typing.{place_of_words, place_of_flags, place_of_bytes, place_of_strings, place_of_texts}
use Rattle.dict_op_laws.specs.Asked.{HasKeyed}
use Rattle.object_laws.specs.Dicts.{as_item, as_word as word_of, hash}
use Rattle.object_laws.specs.Done.{HasLayout}
use Rattle.object_laws.specs.Ghost.{Ghost}
use Rattle.object_laws.specs.Known.{Known}
use Rattle.object_laws.specs.Values.{Stands, word, flag, byte, text, missing, Holds}
use Rattle.object_laws.proofs.Passing.{calls_at, is_set_at}
use Rattle.object_laws.proofs.Valued.{plain_stands, stands_set, use_set}
use Rattle.conversion_laws.proofs.Valued.{TupleAt, tuple_held}
use Rattle.dict_find_laws.specs.Asked.{FieldsHashed, HashesBy, HashesTo, fields_asked}
use Rattle.dict_find_laws.specs.Keys.{AllAreKeys, AreKeys, IsThere}
use Rattle.dict_find_laws.specs.Keys as keys
use Rattle.dict_find_laws.proofs.Alike.{number_of, key_word, hash_word}
use Rattle.dict_find_laws.proofs.Hashing.{word_hashed, text_hashed, hash_of_string}
use Rattle.dict_find_laws.proofs.Ready.{Went, kept_as}
use Rattle.dict_find_laws.proofs.Tupled.{AllHash, AllSorts, Hashes, Mixed, Staying, folded, hash_folded, kept_item, mixes}

-- ---- types of keys

abbrev pub Sort : LlType → Type 0
Sort t = (is_plain t ≡ true) ⊎ ((q : ℕ) × (t ≡ type.Ptr q))

zero_is : (n : ℕ) → (n == 0) ≡ true → n ≡ 0
zero_is n h = grind (arith, nat_tests, h)

module _ (layout : Layout) where
  -- a tuple is no string
  pub no_string : (n : ℕ) → is_tuple layout 0 ≡ false → is_tuple layout n ≡ true → (n == 0) ≡ false
  no_string n apart struct = by (n == 0) refl
    where
      by : (c : Bool) → (n == 0) ≡ c → c ≡ false
      by true h = (let q : true ≡ false = sym struct ∙ ap (is_tuple layout) (zero_is n h) ∙ apart in absurd (cc))
      by false h = refl

  pub plain_sort : (seen : Option Element) (k : Kind) → kind_seen seen ≡ k → is_plain_kind k ≡ true → (is_plain (type_seen layout seen) ≡ true) ⊎ (type_seen layout seen ≡ type.Ptr 0)
  plain_sort seen kind.Word h q = inl (ap is_plain (place_of_words layout seen h))
  plain_sort seen kind.Flag h q = inl (ap is_plain (place_of_flags layout seen h))
  plain_sort seen kind.Byte h q = inl (ap is_plain (place_of_bytes layout seen h))
  plain_sort seen kind.Text h q = inr (place_of_strings layout seen h)
  plain_sort seen kind.MaybeText h q = inr (place_of_texts layout seen h)
  plain_sort seen _ h q = absurd (cc)

  pub sort_of : {seen : Option Element} → AreKeys layout seen → Sort (type_seen layout seen)
  sort_of {seen = seen} (keys.Plain p) = by (plain_sort seen (kind_seen seen) refl p)
    where
      by : (is_plain (type_seen layout seen) ≡ true) ⊎ (type_seen layout seen ≡ type.Ptr 0) → Sort (type_seen layout seen)
      by (inl h) = inl h
      by (inr h) = inr (0, h)
  sort_of (keys.Items n parts apart is all) = inr (n, is.typed)

  no_void : (t : LlType) → Sort t → t ≡ type.Void → ⊥
  no_void t (inl h) v = (let q : true ≡ false = sym h ∙ ap is_plain v in absurd (cc))
  no_void t (inr h) v = (let q : type.Ptr h.0 ≡ type.Void = sym h.1 ∙ v in absurd (cc))

  -- the field of a key is a key
  pub field_same : (part : Element) → AreKeys layout (Some part) → field_type (type_of layout part) ≡ type_of layout part
  field_same part are = field_is (type_of layout part) (no_void (type_of layout part) (sort_of are))

  -- plain keys stand for themselves
  pub plain_key_stands : {known : Known} {g : Ghost} {seen : Option Element} {x : Value} {v : Meant} → AreKeys layout seen → (is_plain (type_seen layout seen) ≡ true) ⊎ (type_seen layout seen ≡ type.Ptr 0) → Holds layout known g seen x v → Stands g (type_seen layout seen) x v
  plain_key_stands (keys.Plain p) t held = plain_stands p held
  plain_key_stands (keys.Items n parts apart is all) (inl h) held = (let q : true ≡ false = sym h ∙ ap is_plain is.typed in absurd (cc))
  plain_key_stands (keys.Items n parts apart is all) (inr h) held = (let z = no_string n apart is.struct in let q : type.Ptr n ≡ type.Ptr 0 = sym is.typed ∙ h in let e : n ≡ 0 = cc in let w : (n == 0) ≡ true = ap (λ k. k == 0) e in let u : true ≡ false = sym w ∙ z in absurd (cc))

-- how deep the tuples are
abbrev mutual
  pub levels : {layout : Layout} {seen : Option Element} → AreKeys layout seen → ℕ
  levels (keys.Plain p) = 1
  levels (keys.Items n parts apart is all) = suc (all_levels all)

  pub all_levels : {layout : Layout} {parts : List Element} → AllAreKeys layout parts → ℕ
  all_levels keys.End = 0
  all_levels (keys.Next one all) = levels one + all_levels all

some_levels : {layout : Layout} {seen : Option Element} (one : AreKeys layout seen) → 1 ≤ levels one
some_levels (keys.Plain p) = omega arith
some_levels (keys.Items n parts apart is all) = omega arith

-- ---- words and strings

-- strings are what they are for helpers
pub low_so : {g : Ghost} (core : Core) {t : LlType} {x : Value} {v : Meant} → t ≡ type.Ptr 0 → Staying g core.blocks core.statics → Stands g t x v → LowStands core.blocks core.statics (type.Ptr 0) x v
low_so core h stays (text x bytes t) = low_text x bytes (record { is = stays x _ t.is; short = t.short; small = t.small })
low_so core h stays missing = low_missing
low_so core h stays (word z f) = absurd (cc)
low_so core h stays (flag b) = absurd (cc)
low_so core h stays (byte b s) = absurd (cc)

-- the value is a string
pub record StringIs (blocks : List (Option Block)) (statics : List Block) (x : Value) (v : Meant) : Type 0 where
  pub bytes : List ℕ
  pub high : v ≡ Text bytes
  pub text : IsText blocks statics x bytes

pub string_is : {blocks : List (Option Block)} {statics : List Block} {t : LlType} {x : Value} {v : Meant} → t ≡ type.Ptr 0 → LowStands blocks statics t x v → IsThere v → StringIs blocks statics x v
string_is h (low_text x bytes t) there = record { bytes = bytes; high = refl; text = t }
string_is h low_missing there = absurd there
string_is h _ there = absurd (cc)

pub word_kept : {g : Ghost} (t : LlType) (x : Value) {v : Meant} → is_plain t ≡ true → Stands g t x v → as_item t (kept_as t) x ≡ Word (number_of v)
word_kept t x plain s = ap (λ b. as_item t (if b then type.Signed else t) x) plain ∙ key_word plain s

pub pointer_kept : (t : LlType) (q : ℕ) (x : Value) → t ≡ type.Ptr q → as_item t (kept_as t) x ≡ x
pointer_kept t q x h = ap (λ t. as_item t (kept_as t) x) h ∙ by (same_type (type.Ptr q) (type.Ptr q)) (same_type_is (type.Ptr q))
  where
    by : (c : Bool) → c ≡ true → (if c then x else word_of x) ≡ x
    by true h = refl
    by false h = absurd (cc)

module _ (p : LlProgram) (args : List (List ℕ)) (layout : Layout) (known : Known) (structs : HasLayout p layout) where
  words_keyed : (f : ℕ) → HasKeyed p layout (keyed.Hash type.Signed) f → slice_get p.graphs f ≡ Some of_word
  unfolding dict_graph hash_graph
  words_keyed f h = h.graph

  module _ (Has : LlType → ℕ → Type 0) (f : ℕ) where
    words_asked : HashesBy Has p layout type.Signed f → slice_get p.graphs f ≡ Some of_word
    unfolding dict_graph hash_graph
    words_asked h = h.graph

    texts_asked : (h : HashesBy Has p layout (type.Ptr 0) f) → slice_get p.graphs f ≡ Some (text_graph (keyed_number (keyed.Hash type.Signed) h.made).0)
    unfolding dict_graph hash_graph of_text
    texts_asked h = h.graph

    tuples_asked : (n : ℕ) → (n == 0) ≡ false → (h : HashesBy Has p layout (type.Ptr n) f) → slice_get p.graphs f ≡ Some (of_tuple layout n h.made).0
    unfolding dict_graph hash_graph
    tuples_asked n other h = h.graph ∙ ap (λ c. Some (if c then of_text h.made else of_tuple layout n h.made).0) other

    module _ (t : LlType) (g : Ghost) (core : Core) (x : Value) (v : Meant) (waits : List Frame) (stays : Staying g core.blocks core.statics) (stands : Stands g t x v) (there : IsThere v) (has : HashesBy Has p layout (kept_as t) f) where
      abbrev Hashed : Value → ℤ → Type 0
      Hashed y z = Comes p args (Calling f (y ∷ []) waits core) [] (Word z) waits core

      of_words : is_plain t ≡ true → Hashed (as_item t (kept_as t) x) (hash layout t v)
      of_words plain =
          subst (λ y. Hashed y (hash layout t v)) (sym (word_kept t x plain stands))
          (subst (Hashed (Word (number_of v))) (sym (hash_word layout plain stands))
          (word_hashed p args f (words_asked (subst (λ b. HashesBy Has p layout (if b then type.Signed else t) f) plain has)) (number_of v) core waits))

      of_texts : t ≡ type.Ptr 0 → Hashed (as_item t (kept_as t) x) (hash layout t v)
      of_texts h =
          let it = string_is refl (low_so core h stays stands) there in
          let asked : HashesBy Has p layout (type.Ptr 0) f = subst (λ t. HashesBy Has p layout (if is_plain t then type.Signed else t) f) h has in
          let text_hash : hash layout t v ≡ mixed (with_bytes (pos 0) it.bytes) = ap (λ t. hash layout t v) h ∙ ap (hash layout (type.Ptr 0)) it.high ∙ hash_of_string it.bytes in
          subst (λ y. Hashed y (hash layout t v)) (sym (pointer_kept t 0 x h))
          (subst (Hashed x) (sym text_hash)
          (text_hashed p args f (keyed_number (keyed.Hash type.Signed) asked.made).0 (texts_asked asked) (words_keyed (keyed_number (keyed.Hash type.Signed) asked.made).0 (asked.words refl)) structs.plain.text waits core x it.bytes it.text))

      pub plain_hashed : (is_plain t ≡ true) ⊎ (t ≡ type.Ptr 0) → Hashed (as_item t (kept_as t) x) (hash layout t v)
      plain_hashed (inl plain) = of_words plain
      plain_hashed (inr h) = of_texts h

  -- ---- tuples

  module _ (n : ℕ) (sorts : AllSorts p args layout known (fields_at layout n)) (made : Found) where
    abbrev w0 : Writing
    w0 = writing made (body_of (type.Ptr n ∷ []))

    M : Mixed p args layout known n 0 (fields_at layout n) (word_operand (pos 0)) w0
    M = mixes p args layout known n 0 (fields_at layout n) (word_operand (pos 0)) w0 sorts

    abbrev mixes_by : ℕ
    mixes_by = (keyed_number (keyed.Hash type.Signed) (fields_asked (fields_at layout n) made)).0

    abbrev types : List LlType
    types = type.Ptr n ∷ M.new

    abbrev at : ℕ
    at = length types

    abbrev calls : LlOp
    calls = op.Call (Some at) mixes_by (M.y ∷ [])

    abbrev the_graph : LlGraph
    the_graph = graph_of (codes "hash_tuple") (0 ∷ []) type.Signed (types ++ type.Signed ∷ []) (block_of (0 ∷ []) (M.ops ++ calls ∷ []) (exit.Return (Some (Var at))) ∷ [])

    graph_is : (of_tuple layout n made).0 ≡ the_graph
    unfolding of_tuple tuple_mixed tuple_graph by_small
    graph_is = ap (λ made. (taking made (λ h next. tuple_made (by_small (small.Keyed (keyed.Hash type.Signed)) type.Signed (h ∷ []) next))).0) M.written

    module _ (f : ℕ) (graph : slice_get p.graphs f ≡ Some (of_tuple layout n made).0) (words : HasKeyed p layout (keyed.Hash type.Signed) mixes_by) (parts : List Element) (all : AllHash p args layout known (fields_at layout n) parts made)
        (struct : is_tuple layout n ≡ true) (apart : (n == 0) ≡ false) (g : Ghost) (core : Core) (x : Value) (v : Meant) (stays : Staying g core.blocks core.statics) (it : TupleAt layout known g n parts x v) (there : IsThere v) (waits : List Frame) where
      abbrev leaves : LlExit
      leaves = exit.Return (Some (Var at))

      abbrev inner : Core
      inner = record core { function = f; block = 0; at = 0; vars = x ∷ replicate (length (M.new ++ type.Signed ∷ [])) Unset }

      x_set : is_unset x ≡ false
      x_set = use_set g x _ it.is

      count : length the_graph.types - 1 ≡ length (M.new ++ type.Signed ∷ [])
      count = omega arith

      enters : Leads p args 0 (Calling f (x ∷ []) waits core) [] (At (M.ops ++ calls ∷ []) leaves waits inner)
      enters = subst (λ k. Leads p args 0 (Calling f (x ∷ []) waits core) [] (At (M.ops ++ calls ∷ []) leaves waits (record core { function = f; block = 0; at = 0; vars = (x ∷ []) ++ replicate k Unset }))) count (enter (graph ∙ ap Some graph_is) refl)

      vars_long : length inner.vars ≡ length M.new + 2
      vars_long = (let a = length-replicate (length (M.new ++ type.Signed ∷ [])) Unset in let b = length-append M.new (type.Signed ∷ []) in omega (arith, a, b))

      R : Went p args (At (M.ops ++ calls ∷ []) leaves waits inner) (calls ∷ []) leaves waits inner 1 M.y (Word (folded layout (pos 0) (fields_at layout n) (parts_of it.vs)))
      R = M.follows parts [] it.xs it.vs x (pos 0) g (calls ∷ []) leaves waits inner all stays it.is refl it.all (subst IsThere it.high there) (length (fields_at layout n)) (structs.plain.tuples n struct) refl (omega arith) tt refl (omega (arith, vars_long))

      abbrev z : ℤ
      z = folded layout (pos 0) (fields_at layout n) (parts_of it.vs)

      abbrev end : Core
      end = after R.mid at (Word (mixed z))

      end_is : read end.vars at ≡ Word (mixed z)
      end_is = is_set_at R.mid at (Word (mixed z)) (let q = R.passed.room in omega (arith, q, vars_long))

      hash_is : hash layout (type.Ptr n) v ≡ mixed z
      hash_is = ap (hash layout (type.Ptr n)) it.high ∙ hash_folded layout (pos 0) (fields_at layout n) (parts_of it.vs)

      returns : Leads p args 0 (At [] leaves waits end) [] (Returning (Word (mixed z)) waits end)
      returns = one (ap (λ y. given y (λ value. Goes (Returning value waits end))) end_is) refl

      pub tuple_hashed : Comes p args (Calling f (x ∷ []) waits core) [] (Word (hash layout (type.Ptr n) v)) waits core
      tuple_hashed = subst (λ z. Comes p args (Calling f (x ∷ []) waits core) [] (Word z) waits core) (sym hash_is) (record {
        end = end;
        same = R.passed.memory;
        leads = on enters (on R.way (on (calls_at (ap (λ y. y ∷ []) R.is) refl (λ waits. word_hashed p args mixes_by (words_keyed mixes_by words) z R.mid waits)) returns));
      })

  -- ---- all keys

  all_sorts : {parts : List Element} → AllAreKeys layout parts → AllSorts p args layout known (shape layout parts)
  all_sorts keys.End = tt
  all_sorts (keys.Next {part = part} one all) = (subst Sort (sym (field_same layout part one)) (sort_of layout one), all_sorts all)

  mutual
    pub key_hashes : {seen : Option Element} (are : AreKeys layout seen) (k : ℕ) → levels are ≤ suc k → (t : LlType) → type_seen layout seen ≡ t → (f : ℕ) → HashesTo (suc k) p layout (kept_as t) f → Hashes p args layout known t seen f
    key_hashes {seen = seen} (keys.Plain plain) k enough t typed f has g core x v stays held there =
        let stands : Stands g t x v = subst (λ t. Stands g t x v) typed (plain_stands plain held) in
        let sort : (is_plain t ≡ true) ⊎ (t ≡ type.Ptr 0) = subst (λ t. (is_plain t ≡ true) ⊎ (t ≡ type.Ptr 0)) typed (plain_sort layout seen (kind_seen seen) refl plain) in
        record { set = stands_set stands; stands = λ q. stands; comes = λ waits. plain_hashed (HashesTo k p layout) f t g core x v waits stays stands there has sort }
    key_hashes {seen = seen} (keys.Items n parts apart is all) k enough t typed f has g core x v stays held there =
        let it = tuple_held n parts is held in
        let h : t ≡ type.Ptr n = sym typed ∙ is.typed in
        let other : (n == 0) ≡ false = no_string layout n apart is.struct in
        let asked : HashesBy (HashesTo k p layout) p layout (type.Ptr n) f = subst (λ t. HashesBy (HashesTo k p layout) p layout (kept_as t) f) h has in
        let sorts : AllSorts p args layout known (fields_at layout n) = subst (AllSorts p args layout known) (sym is.fields) (all_sorts all) in
        let fields : AllHash p args layout known (fields_at layout n) parts asked.made = all_hash all k (omega (arith, enough)) (fields_at layout n) is.fields asked.made (asked.fields n refl other) in
        record {
          set = use_set g x _ it.is;
          stands = λ plain. absurd (let q : true ≡ false = sym plain ∙ ap is_plain h in cc);
          comes = λ waits. subst (λ y. Comes p args (Calling f (y ∷ []) waits core) [] (Word (hash layout t v)) waits core) (sym (pointer_kept t n x h))
              (subst (λ t. Comes p args (Calling f (x ∷ []) waits core) [] (Word (hash layout t v)) waits core) (sym h)
              (tuple_hashed n sorts asked.made f (tuples_asked (HashesTo k p layout) f n other asked) (asked.mixes n refl other) parts fields is.struct other g core x v stays it there waits));
        }

    all_hash : {parts : List Element} (all : AllAreKeys layout parts) (k : ℕ) → all_levels all ≤ k → (ts : List LlType) → ts ≡ shape layout parts → (made : Found) → FieldsHashed (HashesTo k p layout) ts made → AllHash p args layout known ts parts made
    all_hash keys.End k enough ts same made has = subst (λ ts. AllHash p args layout known ts [] made) (sym same) tt
    all_hash (keys.Next {part = part} {parts = parts} one all) zero enough ts same made has = (let some = some_levels one in absurd (omega (arith, some, enough)))
    all_hash (keys.Next {part = part} {parts = parts} one all) (suc k) enough ts same made has =
        let t : LlType = field_type (type_of layout part) in
        let rest : List LlType = shape layout parts in
        let split : FieldsHashed (HashesTo (suc k) p layout) (t ∷ rest) made = subst (λ ts. FieldsHashed (HashesTo (suc k) p layout) ts made) same has in
        subst (λ ts. AllHash p args layout known ts (part ∷ parts) made) (sym same) (
          key_hashes one k (omega (arith, enough)) t (sym (field_same layout part one)) (keyed_number (keyed.Hash (key_item t)) made).0 (subst (λ u. HashesTo (suc k) p layout u (keyed_number (keyed.Hash (key_item t)) made).0) (sym (kept_item t)) split.0),
          all_hash all (suc k) (omega (arith, enough)) rest refl (keyed_number (keyed.Hash (key_item t)) made).1 split.1,
        )
