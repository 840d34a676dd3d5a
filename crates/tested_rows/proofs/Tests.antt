-- What is written for a test answers it.
use Rattle.std.proofs.Common.{◌≡◌, ◌<◌, ◌⊎◌, inl, inr, ℕ, ◌+◌, ◌||◌, Bool, true, false, List, [], ◌∷◌, ◌++◌, length, Option, Some, None, Ok, pos, refl, sym, ap, ◌∙◌, subst, arith, append_assoc, length-append}
use Rattle.std.specs.Prelude.{not, slice_get}
use Rattle.std.specs.Ordering.{int_eq}
use Rattle.ann_element.specs.declared.element.Element.{Element}
use Rattle.ann_element.specs.declared.element.Element.TheVariants as element
use Rattle.csub_tree.specs.State.{Value, Word, Flag, Null, Block, Core}
use Rattle.csub_tree.specs.Operation.{Answer, binary_of, compared, unary_of}
use Rattle.conversion_laws.specs.Going.{takes_text}
use Rattle.csub_tree.specs.Statement.{read}
use Rattle.csub_tree.specs.declared.tree.CBinary.{CBinary}
use Rattle.csub_tree.specs.declared.tree.CBinary.TheVariants as binary
use Rattle.csub_tree.specs.declared.tree.COperand.TheVariants.{Var}
use Rattle.csub_tree.specs.declared.tree.CUnary.TheVariants as unary
use Rattle.csub_tree.specs.declared.tree.COperand.{COperand}
use Rattle.ll_code.specs.declared.program.LlType.{LlType}
use Rattle.ll_texts.specs.Stands.{text, missing}
use Rattle.object_laws.specs.Known.{Known}
use Rattle.object_laws.specs.Values.{may_be_missing, of_dict}
use Rattle.object_laws.proofs.Nothings.{nothing_held}
use Rattle.object_laws.proofs.Valued.{plain_is_simple}
use Rattle.conversion_laws.proofs.Valued.{text_plain, texts_typed}
use Rattle.list_laws.proofs.Lengths.{HeadShape, HeadFound as ListFound}
use Rattle.flow_graph.specs.declared.graph.Graph.{Graph}
use Rattle.ll_build.specs.declared.needs.Helper.TheVariants as helper
use Rattle.ll_code.specs.State.{Frame, Calling, At}
use Rattle.ll_code.specs.declared.program.LlExit.{LlExit}
use Rattle.ll_code.specs.declared.program.LlOp.{LlOp}
use Rattle.ll_code.specs.declared.program.LlOp.TheVariants as op
use Rattle.ll_code.specs.declared.program.LlType.TheVariants as type
use Rattle.ll_leads.proofs.Ways.{Comes, on, gives, turns}
use Rattle.ll_leads.specs.Path.{Leads}
use Rattle.ll_strings.specs.Laws.{HasHelper}
use Rattle.ll_texts.specs.Stands.{Stands as LowStands}
use Rattle.rpy_tree.specs.Value.{Value as Meant}
use Rattle.rpy_meaning.specs.Compare.{is_some_item, object_truth}
use Rattle.rpy_meaning.specs.Operations.{truth_in}
use Rattle.rpy_meaning.specs.World.{World}
use Rattle.rtyper_layout.specs.declared.kind.Kind.{Kind}
use Rattle.rtyper_layout.specs.declared.kind.Kind.TheVariants as kind
use Rattle.rtyper_layout.specs.declared.dicts.Mapping.{Mapping}
use Rattle.rtyper_layout.specs.declared.layout.Layout.{Layout}
use Rattle.rtyper_layout.specs.Kinds.{kind_of, kind_seen}
use Rattle.rtyper_layout.specs.Layout.{mapping_at}
use Rattle.rtyper_layout.specs.Types.{type_of, type_seen}
use Rattle.rtyper_list.specs.Operands.{of_list}
use Rattle.rtyper_data.specs.Comparing.{null, opposite_if}
use Rattle.rtyper_data.specs.Converting.{by_small, helped}
use Rattle.rtyper_data.specs.declared.small.Keyed.TheVariants as keyed
use Rattle.rtyper_data.specs.declared.small.Listed.TheVariants as listed
use Rattle.rtyper_data.specs.declared.small.Small.TheVariants as small
use Rattle.rtyper_data.specs.Finding.{helper_number, small_number}
use Rattle.rtyper_data.specs.Numbers.{word as word_operand}
use Rattle.rtyper_data.specs.Seen.{Around, Operand, Writing}
use Rattle.rtyper_op.specs.declared.text.Test.{Test}
use Rattle.rtyper_op.specs.declared.text.Test.TheVariants.{Known as IsKnown, By}
use Rattle.rtyper_op.specs.Texts.{dict_truth, list_truth, truth_by, truth_of}
use Rattle.rtyper_program.specs.Links.{truth_test}
use Rattle.rtyper_program.specs.Seen.{Lowered, element_at, operand_of}
use Rattle.lower_laws.specs.Asked.{Make}
use Rattle.lower_laws.specs.Values.{is_plain}
use Rattle.lower_laws.specs.Values as low
use Rattle.lower_laws.proofs.Doing.{after}
use Rattle.lower_laws.proofs.Typing.{place_of_bytes}
use Rattle.object_laws.specs.Ghost.{Ghost, DictOf}
use Rattle.object_laws.specs.Represents.{Represents}
use Rattle.object_laws.specs.Values.{Holds, Stands, byte}
use Rattle.object_laws.specs.Values as held
use Rattle.object_laws.proofs.Blocks.{found_there}
use Rattle.object_laws.proofs.Bridged.{held_low}
use Rattle.object_laws.proofs.Passing.{calls_at, is_set_at, none_passed, sets_more}
use Rattle.object_laws.proofs.Valued.{Dicting, Gone, Instancing, Listing, Absent, OfFunction, dict_or_none, function_or_none, held_set, instance_or_none, list_or_none, missing_instance, missing_function, plain_stands, word_held}
use Rattle.conversion_laws.specs.Ordered.{IsLaid, Nowhere, Simple, Listed, Mapped}
use Rattle.dict_op_laws.specs.Asked.{HasKeyed}
use Rattle.growth_laws.specs.Growing.{Grows}
use Rattle.helper_stands.proofs.Asks.{dict_asks_stand, list_asks_stand}
use Rattle.helper_stands.proofs.Helpers.{plain_helpers_stand}
use Rattle.list_laws.specs.Asked.{HasList}
use Rattle.rtyped_laws.specs.Having.{raised_in}
use Rattle.run_laws.specs.Points.{Setting}
use Rattle.block_laws.specs.Exits.{AnswersBy, IsTested, TestedBy}
use Rattle.block_laws.proofs.Branching.{flags_are_tests, known_tested}
use Rattle.typed_rows.specs.Programs.{Typed, IsTyped, layout, world, setting, first, last, numbers, same}
use Rattle.typed_rows.specs.Rows.{lowered_in}
use Rattle.tested_rows.specs.Tests.{TestsAreAnswered}
use Rattle.tested_rows.proofs.Calls.{a_dict, a_list, a_text, has_bytes, no_dict, no_list}
use Rattle.tested_rows.proofs.Telling.{tells}

-- ---- what is held

-- a byte is a string that is not empty
byte_true : {g : Ghost} (t : LlType) (value : Value) (x : Meant) → t ≡ type.Char → Stands g t value x → (world : World) → truth_in world x ≡ Some true
byte_true type.Char value x h (byte b small) world = refl
byte_true _ value x h stands world = absurd (cc)

-- a string, or `None` in its place
low_text : {layout : Layout} {blocks : List (Option Block)} {statics : List Block} {seen : Option Element} {x : Value} {v : Meant} → is_plain (kind_seen seen) ≡ true → low.Holds layout blocks statics seen x v → LowStands blocks statics (type_seen layout seen) x v
low_text plain (low.Plain p s) = s
low_text plain (low.Alone k e f) = (let q : false ≡ true = ap is_plain (sym k) ∙ plain in absurd (cc))
low_text plain (low.Items parts n xs vs e f t is all) = (let q : false ≡ true = ap is_plain (sym (ap kind_seen e)) ∙ plain in absurd (cc))

text_truth : {blocks : List (Option Block)} {statics : List Block} (t : LlType) (x : Value) (v : Meant) → t ≡ type.Ptr 0 → LowStands blocks statics t x v → (world : World) → truth_in world v ≡ Some (has_bytes v)
text_truth (type.Ptr n) x v h (text y bytes t) world = refl
text_truth (type.Ptr n) x v h missing world = refl
text_truth _ x v h stands world = absurd (cc)

-- what never is, is in conflict, or is a tuple has no truth
abbrev is_bare : Kind → Bool
is_bare kind.Never = true
is_bare kind.Other = true
is_bare kind.Tuple = true
is_bare _ = false

bare_apart : (of : Kind → Bool) → of kind.Never ≡ false → of kind.Other ≡ false → of kind.Tuple ≡ false → (k : Kind) → is_bare k ≡ true → of k ≡ true → ⊥
bare_apart of a b c kind.Never h is = (let q : false ≡ true = sym a ∙ is in absurd (cc))
bare_apart of a b c kind.Other h is = (let q : false ≡ true = sym b ∙ is in absurd (cc))
bare_apart of a b c kind.Tuple h is = (let q : false ≡ true = sym c ∙ is in absurd (cc))
bare_apart of a b c _ h is = absurd (cc)

made_bare : (class : ℕ) (r : Bool) → is_bare (kind_of (element.Instance class r)) ≡ true → ⊥
made_bare class true h = absurd (cc)
made_bare class false h = absurd (cc)

called_bare : (fs : List ℕ) (r : Bool) → is_bare (kind_of (element.Func fs r)) ≡ true → ⊥
called_bare fs true h = absurd (cc)
called_bare fs false h = absurd (cc)

no_truth : {layout : Layout} {known : Known} {g : Ghost} {seen : Option Element} {x : Value} {v : Meant} (world : World) (c : Bool) → is_bare (kind_seen seen) ≡ true → Holds layout known g seen x v → truth_in world v ≡ Some c → ⊥
no_truth {seen = seen} world c h (held.Plain p s) truth = bare_apart is_plain refl refl refl (kind_seen seen) h p
no_truth world c h (held.Alone k e f) truth = (let q : false ≡ true = ap is_bare (sym k) ∙ h in absurd (cc))
no_truth world c h (held.Items parts n xs vs e f t is all) truth = (let q : None ≡ Some c = sym (ap (truth_in world) f) ∙ truth in absurd (cc))
no_truth {seen = seen} world c h (held.Listed n i k f t s home) truth = bare_apart of_list refl refl refl (kind_seen seen) h k
no_truth {seen = seen} world c h (held.Mapped n i m k f t s home) truth = bare_apart of_dict refl refl refl (kind_seen seen) h k
no_truth world c h (held.Made class r d i e f b home) truth = made_bare class r (sym (ap (λ s. is_bare (kind_seen s)) e) ∙ h)
no_truth world c h (held.Function fs r f n e k b l y) truth = called_bare fs r (sym (ap (λ s. is_bare (kind_seen s)) e) ∙ h)
no_truth {seen = seen} world c h (held.Missing k e f) truth = bare_apart may_be_missing refl refl refl (kind_seen seen) h k

-- ---- structs

list_typed : {layout : Layout} {same : List ℕ} (site : ℕ) (r : Bool) → IsLaid layout same (element.List site r) → (k : ℕ) × (type_of layout (element.List site r) ≡ type.Ptr k)
list_typed site true (Nowhere h) = absurd (cc)
list_typed site false (Nowhere h) = absurd (cc)
list_typed site true (Simple h) = absurd (cc)
list_typed site false (Simple h) = absurd (cc)
list_typed site r (Listed n other q led typed) = (n, typed)

dict_typed : {layout : Layout} {same : List ℕ} (site : ℕ) (r : Bool) → IsLaid layout same (element.Dict site r) → (k : ℕ) × (type_of layout (element.Dict site r) ≡ type.Ptr k)
dict_typed site true (Nowhere h) = absurd (cc)
dict_typed site false (Nowhere h) = absurd (cc)
dict_typed site true (Simple h) = absurd (cc)
dict_typed site false (Simple h) = absurd (cc)
dict_typed site r (Mapped n other q led typed) = (n, typed)

-- what is asked for by the truth is asked for by the test
same_found : (around : Around) (x : COperand) (e : Option Element) (w : Writing) → (truth_test around (record { x = x; element = e }) w).1.found ≡ (truth_of around (record { x = x; element = e }) w).1.found
unfolding truth_of
same_found around x (Some element.KnownTrue) w = refl
same_found around x (Some element.KnownFalse) w = refl
same_found around x _ w = refl

-- ---- instances

instance_true : (t : Typed) (seen : Option Element) (e : Element) → seen ≡ Some e → kind_of e ≡ kind.Instance → (g : Ghost) (w : World) (blocks : List (Option Block)) (statics : List Block) (value : Value) (x : Meant)
    → Represents (layout t) t.seen g w.heap w.left blocks statics → Holds (layout t) t.seen g seen value x → truth_in w x ≡ Some true
instance_true t seen (element.Instance c false) is h g w blocks statics value x stands held = by (instance_or_none c false is held)
  where
    by : Instancing t.seen g c value x ⊎ ((false ≡ true) × Gone (missing_instance true) seen value x) → truth_in w x ≡ Some true
    by (inl it) = ap (truth_in w) it.high ∙ ap object_truth (stands.instances it.c it.i value it.home).object
    by (inr gone) = (let q = gone.0 in absurd (cc))
instance_true t seen (element.Instance c true) is h g w blocks statics value x stands held = (let q : kind.MaybeInstance ≡ kind.Instance = h in absurd (cc))
instance_true t seen (element.List site true) is h g w blocks statics value x stands held = (let q : kind.MaybeList ≡ kind.Instance = h in absurd (cc))
instance_true t seen (element.List site false) is h g w blocks statics value x stands held = (let q : kind.List ≡ kind.Instance = h in absurd (cc))
instance_true t seen (element.Dict site true) is h g w blocks statics value x stands held = (let q : kind.MaybeDict ≡ kind.Instance = h in absurd (cc))
instance_true t seen (element.Dict site false) is h g w blocks statics value x stands held = (let q : kind.Dict ≡ kind.Instance = h in absurd (cc))
instance_true t seen (element.Func fs true) is h g w blocks statics value x stands held = (let q : kind.MaybeFunction ≡ kind.Instance = h in absurd (cc))
instance_true t seen (element.Func fs false) is h g w blocks statics value x stands held = (let q : kind.Function ≡ kind.Instance = h in absurd (cc))
instance_true t seen _ is h g w blocks statics value x stands held = absurd (cc)

module _ (t : Typed) (typed : IsTyped t) (n : ℕ) (graph : Graph) (v : ℕ) (w : Writing) (early : Grows (first t) w.found) where
  abbrev s : Setting
  s = setting t

  abbrev l : Lowered
  l = lowered_in t n graph

  abbrev around : Around
  around = (world t).around

  abbrev a : Operand
  a = operand_of l v

  abbrev seen : Option Element
  seen = element_at t.known.annotation n v

  abbrev raised : ℕ → Value
  raised = raised_in (world t)

  abbrev m : ℕ
  m = length w.body.types

  abbrev m2 : ℕ
  m2 = length (w.body.types ++ type.Bool ∷ [])

  abbrev Memory : Ghost → World → Core → Type 0
  Memory g world core = Represents (layout t) t.seen g world.heap world.left core.blocks core.statics

  abbrev Held : Ghost → Core → Meant → Type 0
  Held g core x = Holds (layout t) t.seen g seen (read core.vars v) x

  as_left : (g : Ghost) (meant : World) (core : Core) → Memory g meant core → meant.left ≡ core.steps → Represents (layout t) t.seen g meant.heap core.steps core.blocks core.statics
  as_left g meant core stands left = subst (λ k. Represents (layout t) t.seen g meant.heap k core.blocks core.statics) left stands

  -- the one operation sets the variable to the answer
  abbrev Sets : LlOp → Type 0
  Sets o = (next : List LlOp) (e : LlExit) (frames : List Frame) (core : Core) (g : Ghost) (world : World) (x : Meant) (b : Bool) → Memory g world core → world.left ≡ core.steps → Held g core x → truth_in world x ≡ Some b
      → Leads t.p t.arguments 0 (At (o ∷ next) e frames core) [] (At next e frames (after core m (Flag b)))

  one_tested : (o : LlOp) (last : Writing) → last.body.ops ≡ w.body.ops ++ o ∷ [] → last.body.types ≡ w.body.types ++ type.Bool ∷ [] → Sets o → TestedBy s l v w m last
  one_tested o last written types sets = record {
    ops = o ∷ [];
    new = type.Bool ∷ [];
    written = written;
    types = types;
    inside = omega arith;
    follows = λ next e frames core g world x b stands left room held truth.
        tells s l w m b next e frames core g world (o ∷ []) (after core m (Flag b)) stands left (sets_more m (Flag b) (omega arith) none_passed) (is_set_at core m (Flag b) (omega (arith, room))) (sets next e frames core g world x b stands left held truth);
  }

  -- ---- words

  word_tested : kind_seen seen ≡ kind.Word → TestedBy s l v w m (truth_by kind.Word around a w).1
  word_tested is = one_tested (op.Binary m binary.Ne (Var v) (word_operand (pos 0))) (truth_by kind.Word around a w).1 refl refl sets
    where
      sets : Sets (op.Binary m binary.Ne (Var v) (word_operand (pos 0)))
      sets next e frames core g world x b stands left held truth =
          let it = word_held is held in
          let one : Bool = not (int_eq it.number (pos 0)) in
          let same : one ≡ b = (let q : Some one ≡ Some b = sym (ap (truth_in world) it.high) ∙ truth in cc) in
          gives (Flag b) (ap (λ y. binary_of binary.Ne y (Word (pos 0))) it.low ∙ ap (λ c. Ok (Flag c)) same)

  -- ---- strings

  text_tested : takes_text (kind_seen seen) ≡ true → Grows (helper_number helper.StrTruth w.found).1 (last t) → TestedBy s l v w m (helped helper.StrTruth type.Bool (Var v ∷ []) w).1
  unfolding helped
  text_tested texts late = one_tested (op.Call (Some m) (helper_number helper.StrTruth w.found).0 (Var v ∷ [])) (helped helper.StrTruth type.Bool (Var v ∷ []) w).1 refl refl sets
    where
      sets : Sets (op.Call (Some m) (helper_number helper.StrTruth w.found).0 (Var v ∷ []))
      sets next e frames core g world x b stands left held truth =
          let plain = text_plain (kind_seen seen) texts in
          let there : type_seen (layout t) seen ≡ type.Ptr 0 = texts_typed (layout t) seen texts in
          let below : LowStands core.blocks core.statics (type_seen (layout t) seen) (read core.vars v) x = low_text plain (held_low stands (plain_is_simple (kind_seen seen) plain) held) in
          let has : HasHelper t.p (numbers t) helper.StrTruth (helper_number helper.StrTruth w.found).0 core = plain_helpers_stand t.known t.classes t.p t.made t.seen typed.small.graphs typed.small.structs typed.small.texts helper.StrTruth w.found refl early late g world.heap core (as_left g world core stands left) in
          let same : has_bytes x ≡ b = (let q : Some (has_bytes x) ≡ Some b = sym (text_truth (type_seen (layout t) seen) (read core.vars v) x there below world) ∙ truth in cc) in
          calls_at refl (ap (λ c. c || false) (held_set stands held)) (λ waits. subst (λ c. Comes t.p t.arguments (Calling (helper_number helper.StrTruth w.found).0 (read core.vars v ∷ []) waits core) [] (Flag c) waits core) same
          (a_text t.p t.arguments (numbers t) (helper_number helper.StrTruth w.found).0 core has (type_seen (layout t) seen) (read core.vars v) x there below waits))

  -- ---- lists

  -- what a call of the graph comes to
  record Told (f : ℕ) (core : Core) (world : World) (x : Meant) : Type 0 where
    answer : Bool
    comes : (waits : List Frame) → Comes t.p t.arguments (Calling f (read core.vars v ∷ []) waits core) [] (Flag answer) waits core
    truth : truth_in world x ≡ Some answer

  -- a call of a graph
  called_tested : (f : ℕ) (last : Writing) → last.body.ops ≡ w.body.ops ++ op.Call (Some m) f (Var v ∷ []) ∷ [] → last.body.types ≡ w.body.types ++ type.Bool ∷ []
      → ((core : Core) (g : Ghost) (world : World) (x : Meant) → Memory g world core → world.left ≡ core.steps → Held g core x → Told f core world x) → TestedBy s l v w m last
  called_tested f last written types told = one_tested (op.Call (Some m) f (Var v ∷ [])) last written types sets
    where
      sets : Sets (op.Call (Some m) f (Var v ∷ []))
      sets next e frames core g world x b stands left held truth =
          let it = told core g world x stands left held in
          let same : it.answer ≡ b = (let q : Some it.answer ≡ Some b = sym it.truth ∙ truth in cc) in
          calls_at refl (ap (λ c. c || false) (held_set stands held)) (λ waits. subst (λ c. Comes t.p t.arguments (Calling f (read core.vars v ∷ []) waits core) [] (Flag c) waits core) same (it.comes waits))

  list_tested : (k : ℕ) → of_list (kind_seen seen) ≡ true → type_seen (layout t) seen ≡ type.Ptr k → Grows (small_number (small.Listed (listed.Truth k)) w.found).1 (last t)
      → TestedBy s l v w m (by_small (small.Listed (listed.Truth k)) type.Bool (Var v ∷ []) w).1
  unfolding by_small
  list_tested k lists there late = called_tested f (by_small (small.Listed (listed.Truth k)) type.Bool (Var v ∷ []) w).1 refl refl told
    where
      f : ℕ
      f = (small_number (small.Listed (listed.Truth k)) w.found).0

      told : (core : Core) (g : Ghost) (world : World) (x : Meant) → Memory g world core → world.left ≡ core.steps → Held g core x → Told f core world x
      told core g world x stands left held = by (list_or_none lists held)
        where
          has : HasList t.p (layout t) raised (listed.Truth k) f
          has = (list_asks_stand t.known t.classes t.p t.made t.seen typed.small.graphs typed.small.structs typed.small.texts (Make (small.Listed (listed.Truth k)) ∷ []) w.found (tt, tt) early late g world.heap core (as_left g world core stands left)).0

          by : Listing (layout t) t.seen g seen (read core.vars v) x ⊎ Absent seen (read core.vars v) x → Told f core world x
          by (inl it) =
              let here = stands.lists it.n it.i (read core.vars v) it.home it.struct in
              let same : it.n ≡ k = (let q : type.Ptr it.n ≡ type.Ptr k = sym it.typed ∙ there in cc) in
              record {
                answer = is_some_item here.items;
                comes = a_list t.p (layout t) t.arguments raised k f has core (read core.vars v) here.array here.items (subst (HeadShape t.p) same (typed.small.has.heads it.n it.struct)) (subst (λ n. ListFound core (read core.vars v) n (length here.items) here.array) same here.head_is);
                truth = ap (truth_in world) it.high ∙ ap object_truth here.object;
              }
          by (inr gone) = record {
            answer = false;
            comes = subst (λ y. (waits : List Frame) → Comes t.p t.arguments (Calling f (y ∷ []) waits core) [] (Flag false) waits core) (sym gone.low) (no_list t.p (layout t) t.arguments raised k f has core);
            truth = ap (truth_in world) gone.high;
          }

  -- ---- dicts

  dict_tested : (k : ℕ) (d : Mapping) → of_dict (kind_seen seen) ≡ true → type_seen (layout t) seen ≡ type.Ptr k → mapping_at (layout t).mappings k ≡ Some d → Grows (small_number (small.Keyed (keyed.Truth k)) w.found).1 (last t)
      → TestedBy s l v w m (by_small (small.Keyed (keyed.Truth k)) type.Bool (Var v ∷ []) w).1
  unfolding by_small
  dict_tested k d dicts there mapping late = called_tested f (by_small (small.Keyed (keyed.Truth k)) type.Bool (Var v ∷ []) w).1 refl refl told
    where
      f : ℕ
      f = (small_number (small.Keyed (keyed.Truth k)) w.found).0

      told : (core : Core) (g : Ghost) (world : World) (x : Meant) → Memory g world core → world.left ≡ core.steps → Held g core x → Told f core world x
      told core g world x stands left held = by (dict_or_none dicts held)
        where
          has : HasKeyed t.p (layout t) (keyed.Truth k) f
          has = (dict_asks_stand t.known t.classes t.p t.made t.seen typed.small.graphs typed.small.structs typed.small.texts (Make (small.Keyed (keyed.Truth k)) ∷ []) w.found (tt, tt) early late g world.heap core (as_left g world core stands left)).0

          by : Dicting (layout t) t.seen g seen (read core.vars v) x ⊎ Gone kind.MaybeDict seen (read core.vars v) x → Told f core world x
          by (inl it) =
              let same : it.n ≡ k = (let q : type.Ptr it.n ≡ type.Ptr k = sym it.typed ∙ there in cc) in
              let here = stands.dicts k it.i (read core.vars v) d (subst (λ n. slice_get g.homes it.i ≡ Some (record { sort = DictOf n; head = read core.vars v })) same it.home) mapping in
              record {
                answer = is_some_item here.pairs;
                comes = a_dict t.p (layout t) t.arguments k f d mapping has core (read core.vars v) here.one here.two here.places here.pairs (typed.small.has.dicts k d mapping).head here.head_is;
                truth = ap (truth_in world) it.high ∙ ap object_truth here.object;
              }
          by (inr gone) = record {
            answer = false;
            comes = subst (λ y. (waits : List Frame) → Comes t.p t.arguments (Calling f (y ∷ []) waits core) [] (Flag false) waits core) (sym gone.low) (no_dict t.p (layout t) t.arguments k f d mapping has core);
            truth = ap (truth_in world) gone.high;
          }

  -- ---- what may be missing

  turned_twice : (b : Bool) → not (not b) ≡ b
  turned_twice true = refl
  turned_twice false = refl

  m2_is : m2 ≡ m + 1
  m2_is = length-append w.body.types (type.Bool ∷ [])

  abbrev compares : CBinary → LlOp
  compares o = op.Binary m o (Var v) null

  abbrev turned : CBinary → Writing
  turned o = record { found = w.found; body = record { types = (w.body.types ++ type.Bool ∷ []) ++ type.Bool ∷ []; ops = (w.body.ops ++ compares o ∷ []) ++ op.Unary m2 unary.Not (Var m) ∷ [] } }

  -- what is not NULL is true
  turned_tested : (o : CBinary) → binary_of o ≡ compared → ((core : Core) (g : Ghost) (world : World) (x : Meant) (b : Bool) → Memory g world core → Held g core x → truth_in world x ≡ Some b → compared (read core.vars v) Null ≡ Ok (Flag (not b))) → TestedBy s l v w m2 (turned o)
  turned_tested o is low = record {
    ops = compares o ∷ op.Unary m2 unary.Not (Var m) ∷ [];
    new = type.Bool ∷ type.Bool ∷ [];
    written = append_assoc w.body.ops (compares o ∷ []) (op.Unary m2 unary.Not (Var m) ∷ []);
    types = append_assoc w.body.types (type.Bool ∷ []) (type.Bool ∷ []);
    inside = (let q = m2_is in omega (arith, q));
    follows = λ next e frames core g world x b stands left room held truth.
        let core1 : Core = after core m (Flag (not b)) in
        let passed = sets_more m (Flag (not b)) (omega arith) (none_passed {below = m} {core = core}) in
        let inside : m2 < length core1.vars = (let q = m2_is in let r = passed.room in omega (arith, q, r, room)) in
        tells s l w m2 b next e frames core g world (compares o ∷ op.Unary m2 unary.Not (Var m) ∷ []) (after core1 m2 (Flag b)) stands left (sets_more m2 (Flag b) (let q = m2_is in omega (arith, q)) passed) (is_set_at core1 m2 (Flag b) inside)
        (on (gives (Flag (not b)) (ap (λ (f : Value → Value → Answer). f (read core.vars v) Null) is ∙ low core g world x b stands held truth))
        (turns (Flag b) (ap (unary_of unary.Not) (is_set_at core m (Flag (not b)) (omega (arith, room))) ∙ ap (λ c. Ok (Flag c)) (turned_twice b))));
  }

  instance_tested : (c : ℕ) → seen ≡ Some (element.Instance c true) → TestedBy s l v w m2 (turned binary.Peq)
  instance_tested c is = turned_tested binary.Peq refl low
    where
      low : (core : Core) (g : Ghost) (world : World) (x : Meant) (b : Bool) → Memory g world core → Held g core x → truth_in world x ≡ Some b → compared (read core.vars v) Null ≡ Ok (Flag (not b))
      low core g world x b stands held truth = by (instance_or_none c true is held)
        where
          by : Instancing t.seen g c (read core.vars v) x ⊎ ((true ≡ true) × Gone (missing_instance true) seen (read core.vars v) x) → compared (read core.vars v) Null ≡ Ok (Flag (not b))
          by (inl it) =
              let here = stands.instances it.c it.i (read core.vars v) it.home in
              let same : true ≡ b = (let q : Some true ≡ Some b = sym (ap (truth_in world) it.high ∙ ap object_truth here.object) ∙ truth in cc) in
              found_there core.blocks core.statics (read core.vars v) _ here.block_is ∙ ap (λ c. Ok (Flag (not c))) same
          by (inr gone) =
              let same : false ≡ b = (let q : Some false ≡ Some b = sym (ap (truth_in world) gone.1.high) ∙ truth in cc) in
              ap (λ y. compared y Null) gone.1.low ∙ ap (λ c. Ok (Flag (not c))) same

  function_tested : (fs : List ℕ) → seen ≡ Some (element.Func fs true) → TestedBy s l v w m2 (turned binary.Feq)
  function_tested fs is = turned_tested binary.Feq refl low
    where
      low : (core : Core) (g : Ghost) (world : World) (x : Meant) (b : Bool) → Memory g world core → Held g core x → truth_in world x ≡ Some b → compared (read core.vars v) Null ≡ Ok (Flag (not b))
      low core g world x b stands held truth = by (function_or_none fs true is held)
        where
          by : OfFunction t.seen fs (read core.vars v) x ⊎ ((true ≡ true) × Gone (missing_function true) seen (read core.vars v) x) → compared (read core.vars v) Null ≡ Ok (Flag (not b))
          by (inl it) =
              let same : true ≡ b = (let q : Some true ≡ Some b = sym (ap (truth_in world) it.high) ∙ truth in cc) in
              ap (λ y. compared y Null) it.low ∙ ap (λ c. Ok (Flag (not c))) same
          by (inr gone) =
              let same : false ≡ b = (let q : Some false ≡ Some b = sym (ap (truth_in world) gone.1.high) ∙ truth in cc) in
              ap (λ y. compared y Null) gone.1.low ∙ ap (λ c. Ok (Flag (not c))) same

  -- ---- what is always the same

  always : (b : Bool) → ((g : Ghost) (value : Value) (x : Meant) (world : World) → Holds (layout t) t.seen g seen value x → (c : Bool) → truth_in world x ≡ Some c → c ≡ b) → AnswersBy s l v w b w
  always b same = record { same = refl; answer = λ g core value x world c stands told held truth. same g value x world held c truth }

  bare_tested : is_bare (kind_seen seen) ≡ true → AnswersBy s l v w true w
  bare_tested bare = always true (λ g value x world held c truth. absurd (no_truth world c bare held truth))

  none_tested : kind_seen seen ≡ kind.Nothing → AnswersBy s l v w false w
  none_tested is = always false (λ g value x world held c truth. (let q : Some false ≡ Some c = sym (ap (truth_in world) (nothing_held is held)) ∙ truth in cc))

  byte_tested : kind_seen seen ≡ kind.Byte → AnswersBy s l v w true w
  byte_tested is = always true (λ g value x world held c truth.
      (let q : Some true ≡ Some c = sym (byte_true (type_seen (layout t) seen) value x (place_of_bytes (layout t) seen is) (plain_stands (ap is_plain is) held) world) ∙ truth in cc))

  there_tested : (fs : List ℕ) → seen ≡ Some (element.Func fs false) → AnswersBy s l v w true w
  there_tested fs is = always true (λ g value x world held c truth. by g value x world c truth (function_or_none fs false is held))
    where
      by : (g : Ghost) (value : Value) (x : Meant) (world : World) (c : Bool) → truth_in world x ≡ Some c → OfFunction t.seen fs value x ⊎ ((false ≡ true) × Gone (missing_function true) seen value x) → c ≡ true
      by g value x world c truth (inl it) = (let q : Some true ≡ Some c = sym (ap (truth_in world) it.high) ∙ truth in cc)
      by g value x world c truth (inr gone) = (let q = gone.0 in absurd (cc))

  instance_there : (class : ℕ) → seen ≡ Some (element.Instance class false) → AnswersBy s l v w true w
  instance_there class is = record {
    same = refl;
    answer = λ g core value x world c stands told held truth. (let q : Some true ≡ Some c = sym (instance_true t seen (element.Instance class false) is refl g world core.blocks core.statics value x stands held) ∙ truth in cc);
  }

  -- ---- by the element

  abbrev Answered : Test × Writing → Type 0
  Answered made = IsTested s l v w made.0 made.1

  told_so : (made : Test × Writing) → truth_of around a w ≡ made → Answered made → Answered (truth_test around a w)
  told_so made is answered = known_tested l t.seen t.graphs t.p t.arguments v w (subst Answered (sym is) answered)

  -- the truth, by the kind
  by_kind : (k : Kind) → kind_seen seen ≡ k → truth_of around a w ≡ truth_by k around a w
  unfolding truth_of
  by_kind k is = ap (λ k. truth_by k around a w) is

  module _ (late : Grows (truth_test around a w).1.found (last t)) where
    late_in : (made : Test × Writing) → truth_of around a w ≡ made → Grows made.1.found (last t)
    late_in made is = subst (λ f. Grows f (last t)) (same_found around (Var v) seen w ∙ ap (λ (r : Test × Writing). r.1.found) is) late

    answered : (made : Test × Writing) → truth_of around a w ≡ made → (Grows made.1.found (last t) → Answered made) → Answered (truth_test around a w)
    answered made is told = told_so made is (told (late_in made is))

    of_lists : (k : ℕ) → of_list (kind_seen seen) ≡ true → type_seen (layout t) seen ≡ type.Ptr k → truth_of around a w ≡ list_truth (type_seen (layout t) seen) (Var v) w → Answered (truth_test around a w)
    unfolding by_small
    of_lists k lists there is = answered (list_truth (type.Ptr k) (Var v) w) (is ∙ ap (λ y. list_truth y (Var v) w) there) (λ late. list_tested k lists there late)

    of_dicts : (k : ℕ) (d : Mapping) → of_dict (kind_seen seen) ≡ true → type_seen (layout t) seen ≡ type.Ptr k → mapping_at (layout t).mappings k ≡ Some d → truth_of around a w ≡ dict_truth (type_seen (layout t) seen) (Var v) w → Answered (truth_test around a w)
    unfolding by_small
    of_dicts k d dicts there mapping is = answered (dict_truth (type.Ptr k) (Var v) w) (is ∙ ap (λ y. dict_truth y (Var v) w) there) (λ late. dict_tested k d dicts there mapping late)

    of_flags : v < length w.body.types → kind_seen seen ≡ kind.Flag → Answered (truth_test around a w)
    of_flags under is = flags_are_tests l t.seen t.graphs t.p t.arguments v w is under

    of_texts : (k : Kind) → kind_seen seen ≡ k → truth_by k around a w ≡ (By (helped helper.StrTruth type.Bool (Var v ∷ []) w).0, (helped helper.StrTruth type.Bool (Var v ∷ []) w).1) → takes_text k ≡ true → Answered (truth_test around a w)
    unfolding helped
    of_texts k is same texts = answered (By (helped helper.StrTruth type.Bool (Var v ∷ []) w).0, (helped helper.StrTruth type.Bool (Var v ∷ []) w).1) (by_kind k is ∙ same) (λ late. text_tested (ap takes_text is ∙ texts) late)

    by_element : v < length w.body.types → (e : Element) → seen ≡ Some e → IsLaid (layout t) (same t) e → Answered (truth_test around a w)
    unfolding opposite_if
    by_element under element.Unreached is laid = answered (IsKnown true, w) (by_kind kind.Never (ap kind_seen is)) (λ late. bare_tested (ap (λ s. is_bare (kind_seen s)) is))
    by_element under element.NoneOnly is laid = answered (IsKnown false, w) (by_kind kind.Nothing (ap kind_seen is)) (λ late. none_tested (ap kind_seen is))
    by_element under element.KnownTrue is laid = of_flags under (ap kind_seen is)
    by_element under element.KnownFalse is laid = of_flags under (ap kind_seen is)
    by_element under element.Bool is laid = of_flags under (ap kind_seen is)
    by_element under element.IntPos is laid = answered (truth_by kind.Word around a w) (by_kind kind.Word (ap kind_seen is)) (λ late. word_tested (ap kind_seen is))
    by_element under element.Int is laid = answered (truth_by kind.Word around a w) (by_kind kind.Word (ap kind_seen is)) (λ late. word_tested (ap kind_seen is))
    by_element under element.Char is laid = answered (IsKnown true, w) (by_kind kind.Byte (ap kind_seen is)) (λ late. byte_tested (ap kind_seen is))
    by_element under element.Str is laid = of_texts kind.Text (ap kind_seen is) refl refl
    by_element under element.StrOrNone is laid = of_texts kind.MaybeText (ap kind_seen is) refl refl
    by_element under (element.List site true) is laid = (let at = list_typed site true laid in of_lists at.0 (ap (λ s. of_list (kind_seen s)) is) (ap (type_seen (layout t)) is ∙ at.1) (by_kind kind.MaybeList (ap kind_seen is)))
    by_element under (element.List site false) is laid = (let at = list_typed site false laid in of_lists at.0 (ap (λ s. of_list (kind_seen s)) is) (ap (type_seen (layout t)) is ∙ at.1) (by_kind kind.List (ap kind_seen is)))
    by_element under (element.Dict site true) is laid = (let at = dict_typed site true laid in let has = typed.structs.dicts site at.0 true at.1 in of_dicts at.0 has.mapping (ap (λ s. of_dict (kind_seen s)) is) (ap (type_seen (layout t)) is ∙ at.1) has.is (by_kind kind.MaybeDict (ap kind_seen is)))
    by_element under (element.Dict site false) is laid = (let at = dict_typed site false laid in let has = typed.structs.dicts site at.0 false at.1 in of_dicts at.0 has.mapping (ap (λ s. of_dict (kind_seen s)) is) (ap (type_seen (layout t)) is ∙ at.1) has.is (by_kind kind.Dict (ap kind_seen is)))
    by_element under (element.Instance c true) is laid = answered (By (Var m2), turned binary.Peq) (by_kind kind.MaybeInstance (ap kind_seen is)) (λ late. instance_tested c is)
    by_element under (element.Instance c false) is laid = answered (IsKnown true, w) (by_kind kind.Instance (ap kind_seen is)) (λ late. instance_there c is)
    by_element under (element.Func fs true) is laid = answered (By (Var m2), turned binary.Feq) (by_kind kind.MaybeFunction (ap kind_seen is)) (λ late. function_tested fs is)
    by_element under (element.Func fs false) is laid = answered (IsKnown true, w) (by_kind kind.Function (ap kind_seen is)) (λ late. there_tested fs is)
    by_element under (element.Conflict lists dicts) is laid = answered (IsKnown true, w) (by_kind kind.Other (ap kind_seen is)) (λ late. bare_tested (ap (λ s. is_bare (kind_seen s)) is))
    by_element under other is laid = answered (IsKnown true, w) (by_kind kind.Tuple (ap kind_seen is)) (λ late. bare_tested (ap (λ s. is_bare (kind_seen s)) is))

pub tests_are_answered : TestsAreAnswered
tests_are_answered t typed n graph v test w early late enough =
    let under = test.under in
    by_element t typed n graph v w early late (omega (arith, under, enough)) test.element test.is test.laid
