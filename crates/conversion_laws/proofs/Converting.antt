-- Values keep what they are where they go from one element to another.
use Rattle.std.proofs.Common.{◌≡◌, ◌≤◌, ℕ, zero, suc, ◌+◌, false, true, List, [], ◌∷◌, ◌++◌, length, Option, refl, sym, ap, ◌∙◌, subst, arith, append_assoc, length-append}
use Rattle.std.specs.Prelude.{unwrap_or, if◌then◌else◌, ◌&&◌}
use Rattle.ann_element.specs.declared.element.Element.{Element}
use Rattle.csub_tree.specs.State.{Value, Static, Core}
use Rattle.csub_tree.specs.Statement.{operand}
use Rattle.csub_tree.specs.declared.tree.COperand.{COperand}
use Rattle.csub_tree.specs.declared.tree.COperand.TheVariants.{Const}
use Rattle.ll_code.specs.State.{Frame, State}
use Rattle.ll_code.specs.declared.program.LlOp.{LlOp}
use Rattle.ll_code.specs.declared.program.LlExit.{LlExit}
use Rattle.ll_code.specs.declared.program.LlProgram.{LlProgram}
use Rattle.ll_code.specs.declared.program.LlType.{LlType}
use Rattle.ll_code.specs.declared.program.LlType.TheVariants as type
use Rattle.ll_texts.proofs.Reading.{get_mid}
use Rattle.ll_build.specs.declared.needs.Helper.TheVariants as helper
use Rattle.rpy_tree.specs.Value.{Value as Meant, Heap}
use Rattle.rtyper_layout.specs.declared.kind.Kind.TheVariants as kind
use Rattle.rtyper_layout.specs.declared.layout.Layout.{Layout}
use Rattle.rtyper_layout.specs.Kinds.{kind_seen}
use Rattle.rtyper_layout.specs.Layout.{is_tuple}
use Rattle.rtyper_layout.specs.Types.{type_of, type_seen, shape, field_type}
use Rattle.rtyper_data.specs.declared.small.Small.TheVariants as small
use Rattle.rtyper_data.specs.Converting.{default_constant, default_operand}
use Rattle.rtyper_data.specs.Finding.{same_type}
use Rattle.rtyper_data.specs.Graphs.{fields_at, field_at, shared_fields}
use Rattle.rtyper_data.specs.Seen.{Writing}
use Rattle.lower_laws.specs.Asked.{Help, Make}
use Rattle.lower_laws.specs.Values.{IsBelow}
use Rattle.lower_laws.proofs.Doing.{same_type_is}
use Rattle.lower_laws.proofs.Typing.{place_of_bytes, place_of_none}
use Rattle.object_laws.specs.Ghost.{Ghost}
use Rattle.object_laws.specs.Known.{Known}
use Rattle.object_laws.specs.Values.{Holds, Plain, Stands, text}
use Rattle.object_laws.proofs.Nothings.{nothing_held}
use Rattle.object_laws.proofs.Valued.{stays_typed}
use Rattle.conversion_laws.specs.Asked.{Has, HasTo, asked_by, asks_for}
use Rattle.conversion_laws.specs.Conversions.{ValuesAreConverted}
use Rattle.conversion_laws.specs.Converted.{Blank, Came, converted, tuples_in, items_in}
use Rattle.conversion_laws.specs.Going.{Goes, AllGo, IsTuple, takes_text}
use Rattle.conversion_laws.specs.Going as goes
use Rattle.conversion_laws.proofs.Casting.{ItemsMean, all_long, cast_means, next_item, no_items}
use Rattle.conversion_laws.proofs.Moving.{all_had, more_moved}
use Rattle.conversion_laws.proofs.Rows.{shared_is, turn_at}
use Rattle.conversion_laws.proofs.Turned.{Lettered, Means, Turned, blank_means, default_means, null_means, same_means, text_means}
use Rattle.conversion_laws.proofs.Turning.{Turn, Same, Default, Texts, Casts, asks_are, left_by, new_of, operand_of, ops_of, turn, under, value_is}
use Rattle.conversion_laws.proofs.Valued.{all_levels, byte_held, fields_typed, goes_same, levels, missing_is, never_held, same_struct, some_levels, text_plain, texts_typed}

-- ---- types apart

module _ (layout : Layout) where
  -- a byte and a string, and two tuples, have a conversion
  text_asked : (s t : LlType) → s ≡ type.Char → t ≡ type.Ptr 0 → asked_by layout s t ≡ [] → ⊥
  text_asked s t h k e = (let q : Help helper.StrOfChar ∷ [] ≡ [] = sym (ap (λ s. asked_by layout s t) h ∙ ap (asked_by layout type.Char) k) ∙ e in absurd (cc))

  cast_made : (s t : LlType) (m n : ℕ) → s ≡ type.Ptr m → t ≡ type.Ptr n → is_tuple layout m ≡ true → is_tuple layout n ≡ true → asked_by layout s t ≡ [] → ⊥
  cast_made s t m n h k i j e =
      let r : asked_by layout (type.Ptr m) (type.Ptr n) ≡ Make (small.Cast m n) ∷ [] = ap (λ c. if c && is_tuple layout n then Make (small.Cast m n) ∷ [] else []) i ∙ ap (λ c. if c then Make (small.Cast m n) ∷ [] else []) j in
      let q : Make (small.Cast m n) ∷ [] ≡ [] = sym (ap (λ s. asked_by layout s t) h ∙ ap (asked_by layout (type.Ptr m)) k ∙ r) ∙ e in absurd (cc)

same_apart : (s t : LlType) → s ≡ t → same_type s t ≡ false → ⊥
same_apart s t h o = (let q : true ≡ false = sym (same_type_is s) ∙ ap (same_type s) h ∙ o in absurd (cc))

-- the types of values, where there are some
abbrev Typed : Layout → Option Element → Option Element → LlType → LlType → Type 0
Typed layout from to s t = (kind_seen from ≡ kind.Never → ⊥) → (type_seen layout from ≡ s) × (type_seen layout to ≡ t)

-- what is written converts a value of which the one is known to one of which the other is known
abbrev Turns : (layout : Layout) (known : Known) (k : ℕ) (from to : Option Element) {s t : LlType} → Turn layout s t → Type 0
Turns layout known k from to tn = (v : Meant) → Means layout known k tn (items_in to) (tuples_in to) (λ g x. Holds layout known g from x v) (λ g y. Holds layout known g to y v)

pub field_there : (pre : List LlType) (t : LlType) (post to : List LlType) (i : ℕ) → to ≡ pre ++ t ∷ post → i ≡ length pre → field_at to i ≡ t
field_there pre t post to i h j = ap (λ to. field_at to i) h ∙ ap (λ o. unwrap_or o type.Void) (get_mid pre t post i j)

-- ---- each way

module _ {layout : Layout} {known : Known} where
  -- as much as nothing
  means_more : (k : ℕ) {s t : LlType} (tn : Turn layout s t) (most count : ℕ) (Pre Post : Ghost → Value → Type 0) → Means layout known k tn 0 0 Pre Post → Means layout known k tn most count Pre Post
  means_more k tn most count Pre Post means x w p numbers raised arguments rest e frames core g heap left has asked r steps room below pre =
      let it = means x w p numbers raised arguments rest e frames core g heap left has asked r steps room below pre in
      record { end = it.end; ghost = it.ghost; moved = more_moved (omega arith) (omega arith) it.moved; fine = it.fine }

  -- the default is a value of the other, where it is given
  default_held : {from to : Option Element} {s t : LlType} {g : Ghost} {x : Value} {v : Meant} (go : Goes layout known from to) → same_type s t ≡ false → asked_by layout s t ≡ [] → Typed layout from to s t → Holds layout known g from x v → Holds layout known g to (operand [] (default_operand t)) v
  default_held (goes.Never k) o a typed held = absurd (never_held k held)
  default_held {s = s} {t = t} (goes.Staying st) o a typed held = (let ts = typed (λ k. never_held k held) in absurd (same_apart s t (sym ts.0 ∙ stays_typed st ∙ ts.1) o))
  default_held {t = t} (goes.Missing k u d) o a typed held =
      let ts = typed (λ k. never_held k held) in
      missing_is u (ap (λ c. operand [] (Const c)) (ap default_constant (sym ts.1) ∙ d)) (nothing_held k held)
  default_held {from = from} {to = to} {s = s} {t = t} (goes.Texted k u) o a typed held = (let ts = typed (λ k. never_held k held) in absurd (text_asked layout s t (sym ts.0 ∙ place_of_bytes layout from k) (sym ts.1 ∙ texts_typed layout to u) a))
  default_held {s = s} {t = t} (goes.Items m n parts others i j all) o a typed held = (let ts = typed (λ k. never_held k held) in absurd (cast_made layout s t m n (sym ts.0 ∙ i.typed) (sym ts.1 ∙ j.typed) i.struct j.struct a))

  -- a byte is a string
  text_held : {from to : Option Element} {g : Ghost} {x : Value} {v : Meant} (go : Goes layout known from to) → Typed layout from to type.Char (type.Ptr 0) → Holds layout known g from x v → Lettered g x (λ g y. Holds layout known g to y v)
  text_held (goes.Never k) typed held = absurd (never_held k held)
  text_held (goes.Staying s) typed held = (let ts = typed (λ k. never_held k held) in let q : type.Char ≡ type.Ptr 0 = sym ts.0 ∙ stays_typed s ∙ ts.1 in absurd (cc))
  text_held {from = from} (goes.Missing k u d) typed held = (let ts = typed (λ k. never_held k held) in let q : type.Char ≡ type.Bool = sym ts.0 ∙ place_of_none layout from k in absurd (cc))
  text_held {to = to} {g = g} {v = v} (goes.Texted k u) typed held =
      let b = byte_held k held in
      record {
        number = b.number;
        low = b.low;
        small = b.small;
        fine = λ t. Plain (text_plain (kind_seen to) u) (subst (λ s. Stands g s (Static (b.number + 1)) v) (sym (texts_typed layout to u)) (subst (λ v. Stands g (type.Ptr 0) (Static (b.number + 1)) v) (sym b.high) (text (Static (b.number + 1)) (b.number ∷ []) t)));
      }
  text_held (goes.Items m n parts others i j all) typed held = (let ts = typed (λ k. never_held k held) in let q : type.Char ≡ type.Ptr m = sym ts.0 ∙ i.typed in absurd (cc))

  -- of no value a tuple is made
  no_cast : (from to : Option Element) (k m n : ℕ) (o : same_type (type.Ptr m) (type.Ptr n) ≡ false) (i : is_tuple layout m ≡ true) (j : is_tuple layout n ≡ true) (v : Meant) → ((g : Ghost) (x : Value) → Holds layout known g from x v → ⊥)
      → Means layout known (suc k) (Casts m n o i j) (items_in to) (tuples_in to) (λ g x. Holds layout known g from x v) (λ g y. Holds layout known g to y v)
  no_cast from to k m n o i j v none =
      means_more (suc k) (Casts m n o i j) (items_in to) (tuples_in to) (λ g x. Holds layout known g from x v) (λ g y. Holds layout known g to y v)
      (null_means k {Pre = λ g x. Holds layout known g from x v} {Post = λ g y. Holds layout known g to y v} m n o i j (λ g x held. absurd (none g x held)))

  mutual
    pub goes_means : {from to : Option Element} {s t : LlType} (go : Goes layout known from to) (k : ℕ) → levels go ≤ suc k → (tn : Turn layout s t) → Typed layout from to s t → Turns layout known (suc k) from to tn
    goes_means {from = from} {to = to} {s = s} go k enough Same typed v =
        means_more (suc k) (Same {t = s}) (items_in to) (tuples_in to) (λ g x. Holds layout known g from x v) (λ g y. Holds layout known g to y v)
        (same_means (suc k) {Pre = λ g x. Holds layout known g from x v} {Post = λ g y. Holds layout known g to y v} s (λ g x held. (let ts = typed (λ k. never_held k held) in goes_same go (ts.0 ∙ sym ts.1) held)))
    goes_means {from = from} {to = to} {s = s} {t = t} go k enough (Default o c a) typed v =
        means_more (suc k) (Default o c a) (items_in to) (tuples_in to) (λ g x. Holds layout known g from x v) (λ g y. Holds layout known g to y v)
        (default_means (suc k) {Pre = λ g x. Holds layout known g from x v} {Post = λ g y. Holds layout known g to y v} s t o c a (λ g x held. default_held go o a typed held))
    goes_means {from = from} {to = to} go k enough Texts typed v =
        means_more (suc k) Texts (items_in to) (tuples_in to) (λ g x. Holds layout known g from x v) (λ g y. Holds layout known g to y v)
        (text_means k {Pre = λ g x. Holds layout known g from x v} {Post = λ g y. Holds layout known g to y v} (λ g x held. text_held go typed held))
    goes_means {from = from} {to = to} (goes.Never h) k enough (Casts m n o i j) typed v = no_cast from to k m n o i j v (λ g x held. never_held h held)
    goes_means {from = from} {to = to} (goes.Staying st) k enough (Casts m n o i j) typed v = no_cast from to k m n o i j v (λ g x held. (let ts = typed (λ k. never_held k held) in same_apart (type.Ptr m) (type.Ptr n) (sym ts.0 ∙ stays_typed st ∙ ts.1) o))
    goes_means {from = from} {to = to} (goes.Missing h u d) k enough (Casts m n o i j) typed v = no_cast from to k m n o i j v (λ g x held. (let ts = typed (λ k. never_held k held) in let q : type.Ptr m ≡ type.Bool = sym ts.0 ∙ place_of_none layout from h in absurd (cc)))
    goes_means {from = from} {to = to} (goes.Texted h u) k enough (Casts m n o i j) typed v = no_cast from to k m n o i j v (λ g x held. (let ts = typed (λ k. never_held k held) in let q : type.Ptr m ≡ type.Char = sym ts.0 ∙ place_of_bytes layout from h in absurd (cc)))
    goes_means {from = from} {to = to} (goes.Items m2 n2 parts others a b all) k enough (Casts m n o i j) typed v =
        let ts = typed (λ h. (let q : kind.Tuple ≡ kind.Never = sym (ap kind_seen a.is) ∙ h in absurd (cc))) in
        let q : m2 ≡ m = same_struct m2 m (sym a.typed ∙ ts.0) in
        let r : n2 ≡ n = same_struct n2 n (sym b.typed ∙ ts.1) in
        let a2 = subst (λ m. IsTuple layout from m parts) q a in
        let b2 = subst (λ n. IsTuple layout to n others) r b in
        let shared : shared_fields layout m n ≡ fields_at layout m = shared_is layout m n (ap length a2.fields ∙ all_long all ∙ sym (ap length b2.fields)) in
        cast_means layout known k m n parts others from to a2 b2 (all_long all) o i j
        (subst (λ ts. ItemsMean layout known k m (fields_at layout n) 0 ts parts others) (sym (shared ∙ a2.fields)) (items_mean all k (omega (arith, enough)) m (fields_at layout n) 0 [] b2.fields refl)) v

    items_mean : {parts others : List Element} (all : AllGo layout known parts others) (k : ℕ) → all_levels all ≤ k → (m : ℕ) (to : List LlType) (i : ℕ) (pre : List LlType) → to ≡ pre ++ shape layout others → i ≡ length pre → ItemsMean layout known k m to i (shape layout parts) parts others
    items_mean goes.End k enough m to i pre h j = no_items layout known k m to i
    items_mean (goes.Next {part = part} {other = other} {parts = parts} {others = others} go all) zero enough m to i pre h j = (let some = some_levels go in absurd (omega (arith, some, enough)))
    items_mean (goes.Next {part = part} {other = other} {parts = parts} {others = others} go all) (suc k) enough m to i pre h j =
        let t : LlType = field_type (type_of layout part) in
        let u : LlType = field_type (type_of layout other) in
        let there : field_at to i ≡ u = field_there pre u (shape layout others) to i h j in
        let long : length (pre ++ u ∷ []) ≡ length pre + 1 = length-append pre (u ∷ []) in
        next_item layout known (suc k) m to i part other parts others t (shape layout parts)
        (goes_means go k (omega (arith, enough)) (turn_at layout m to i t) (λ real. (let f = fields_typed go real in (f.0, f.1 ∙ sym there))))
        (items_mean all (suc k) (omega (arith, enough)) m to (i + 1) (pre ++ u ∷ []) (h ∙ sym (append_assoc pre (u ∷ []) (shape layout others))) (omega (arith, j, long)))

-- ---- the law

module _ {layout : Layout} {known : Known} {Fine : Ghost → Value → Type 0} {p : LlProgram} {arguments : List (List ℕ)} {s : State} {rest : List LlOp} {e : LlExit} {frames : List Frame} {core : Core} {g : Ghost} {heap : Heap} {left below : ℕ} {to : Option Element} {y z : COperand} where
  came : z ≡ y → Turned layout known p arguments s rest e frames core g heap left below (items_in to) (tuples_in to) Fine y → Came layout known Fine p arguments s rest e frames core g heap left below to z
  came same it = record {
    end = it.end;
    leads = it.moved.leads;
    ghost = it.ghost;
    grown = it.moved.grown;
    stands = it.moved.stands;
    fine = subst (λ y. Fine it.ghost (operand it.end.vars y)) (sym same) it.fine;
    few = it.moved.few;
    memory = it.moved.memory;
    others = it.moved.others;
    room = it.moved.room;
    function = it.moved.function;
    block = it.moved.block;
  }

pub values_are_converted : ValuesAreConverted
values_are_converted known layout from to x w apart go =
    let s : LlType = type_seen layout from in
    let t : LlType = type_seen layout to in
    let tn : Turn layout s t = turn layout s t in
    let is : converted layout from to x w ≡ (operand_of tn x w, left_by tn x w) = value_is tn x w in
    let same : (converted layout from to x w).0 ≡ operand_of tn x w = ap (λ (r : COperand × Writing). r.0) is in
    let k : ℕ = levels go in
    record {
      ops = ops_of tn x w;
      new = new_of tn;
      asked = ap (λ (r : COperand × Writing). r.1.found) is ∙ asks_are tn w;
      written = ap (λ (r : COperand × Writing). r.1.body.ops) is;
      types = ap (λ (r : COperand × Writing). r.1.body.types) is;
      under = λ below. subst (λ y. IsBelow (length w.body.types + length (new_of tn)) y) (sym same) (under tn x w below);
      follows = λ p numbers raised arguments rest e frames core g heap left v structs has stands steps room below held.
          came same (goes_means go k (omega arith) tn (λ real. (refl, refl)) v x w p numbers raised arguments rest e frames core g heap left structs
          (all_had (Has p layout numbers raised core) (HasTo p layout numbers raised core (suc k)) (λ a made h. h (suc k)) (asks_for layout s t) w.found has) stands steps room below held);
      blank = λ p numbers raised arguments rest e frames core g heap left structs has stands steps room below held.
          came same (means_more 1 tn (items_in to) (tuples_in to) (λ g x. Blank g s x) (λ g y. Blank g t y) (blank_means 0 tn apart) x w p numbers raised arguments rest e frames core g heap left structs
          (all_had (Has p layout numbers raised core) (HasTo p layout numbers raised core 1) (λ a made h. h 1) (asks_for layout s t) w.found has) stands steps room below held);
    }
