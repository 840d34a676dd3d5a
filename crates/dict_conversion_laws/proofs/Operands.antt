-- An operation whose operand is converted before it is done.
use Rattle.std.proofs.Common.{◌≡◌, ◌<◌, ◌≤◌, ℕ, zero, suc, ◌+◌, Bool, true, false, List, [], ◌∷◌, ◌++◌, length, Option, sym, ap, ◌∙◌, subst, arith, append_assoc, length-append}
use Rattle.std.specs.Prelude.{◌==◌, ◌&&◌, if◌then◌else◌}
use Rattle.ann_element.specs.declared.element.Element.{Element}
use Rattle.csub_tree.specs.State.{Value, Core}
use Rattle.csub_tree.specs.Statement.{operand, read}
use Rattle.csub_tree.specs.declared.tree.COperand.{COperand}
use Rattle.csub_tree.specs.declared.tree.COperand.TheVariants.{Var, Const}
use Rattle.rpy_tree.specs.Value.{Value as Meant}
use Rattle.rpy_meaning.specs.declared.row.Covers.{Covers}
use Rattle.rpy_meaning.specs.declared.row.RowOp.{RowOp}
use Rattle.rpy_meaning.specs.Operations.{op as meant_op}
use Rattle.rpy_meaning.specs.World.{World}
use Rattle.ll_code.specs.State.{Frame, At}
use Rattle.ll_code.specs.declared.program.LlType.{LlType}
use Rattle.ll_code.specs.declared.program.LlType.TheVariants as type
use Rattle.ll_code.specs.declared.program.LlOp.{LlOp}
use Rattle.ll_code.specs.declared.program.LlExit.{LlExit}
use Rattle.ll_code.specs.declared.program.LlProgram.{LlProgram}
use Rattle.ll_build.specs.declared.needs.Helper.TheVariants as helper
use Rattle.ll_build.specs.declared.needs.Numbers.{Numbers}
use Rattle.rtyper_layout.specs.declared.layout.Layout.{Layout}
use Rattle.rtyper_layout.specs.Layout.{is_tuple}
use Rattle.rtyper_layout.specs.Types.{type_seen}
use Rattle.rtyper_data.specs.declared.found.Found.{Found}
use Rattle.rtyper_data.specs.declared.small.Small.TheVariants as small
use Rattle.rtyper_data.specs.Finding.{same_type}
use Rattle.rtyper_data.specs.Seen.{Around, Operand, Place, Writing}
use Rattle.lower_laws.specs.Asked.{Ask, Help, Make, all_asked}
use Rattle.lower_laws.specs.Values.{AllBelow, IsBelow}
use Rattle.list_laws.proofs.Indexed.{asked_both}
use Rattle.object_laws.specs.Done.{AllAsked, HasLayout, references}
use Rattle.object_laws.specs.Ghost.{Ghost, Grown}
use Rattle.object_laws.specs.Known.{Known}
use Rattle.object_laws.specs.Represents.{Represents}
use Rattle.object_laws.specs.Values.{Given, Holds}
use Rattle.object_laws.proofs.Growing.{holds_grows}
use Rattle.conversion_laws.specs.Asked.{Has as HasConversion, asked_by, asks_for}
use Rattle.conversion_laws.specs.Converted.{Came, IsConverted, items_in, tuples_in}
use Rattle.conversion_laws.specs.Going.{Goes}
use Rattle.conversion_laws.proofs.Converting.{values_are_converted}
use Rattle.conversion_laws.proofs.Moving.{Moved, has_first, has_second, operand_kept}
use Rattle.dict_conversion_laws.specs.Asked.{Has, HasAll}
use Rattle.dict_conversion_laws.specs.Done.{Follows, IsDoneWhere}
use Rattle.dict_conversion_laws.specs.Operands.{OperandsAreConverted, operand_as, operand_asks, written_for}
use Rattle.dict_conversion_laws.proofs.Composed.{then_follows}
use Rattle.dict_conversion_laws.proofs.Kept.{all_kept}
use Rattle.lower_laws.specs.Asked.{Has as HasValues}

-- ---- what conversions ask for

module _ (p : LlProgram) (layout : Layout) (numbers : Numbers) (raised : ℕ → Value) (core : Core) where
  abbrev Theirs : List Ask → Found → Type 0
  Theirs asks found = AllAsked (HasConversion p layout numbers raised core) asks found

  a_string : (found : Found) → HasValues p layout numbers raised core (Help helper.StrOfChar) found → HasConversion p layout numbers raised core (Help helper.StrOfChar) found
  a_string found h zero = tt
  a_string found h (suc k) = h

  asked_so : (s t : LlType) (found : Found) → HasAll p layout numbers raised core (asked_by layout s t) found → Theirs (asked_by layout s t) found
  asked_so type.Char (type.Ptr n) found h = by (n == 0) h
    where
      by : (c : Bool) → HasAll p layout numbers raised core (if c then Help helper.StrOfChar ∷ [] else []) found → Theirs (if c then Help helper.StrOfChar ∷ [] else []) found
      by true h = (a_string found h.0, tt)
      by false h = tt
  asked_so (type.Ptr m) (type.Ptr n) found h = by (is_tuple layout m && is_tuple layout n) h
    where
      by : (c : Bool) → HasAll p layout numbers raised core (if c then Make (small.Cast m n) ∷ [] else []) found → Theirs (if c then Make (small.Cast m n) ∷ [] else []) found
      by true h = (h.0, tt)
      by false h = tt
  asked_so _ _ found h = tt

  pub conversion_has : (s t : LlType) (found : Found) → HasAll p layout numbers raised core (asks_for layout s t) found → Theirs (asks_for layout s t) found
  conversion_has s t found h = by (same_type s t) h
    where
      by : (c : Bool) → HasAll p layout numbers raised core (if c then [] else asked_by layout s t) found → Theirs (if c then [] else asked_by layout s t) found
      by true h = tt
      by false h = asked_so s t found h

-- ---- operands

pub below_more : (x : COperand) (j k : ℕ) → j ≤ k → IsBelow j x → IsBelow k x
below_more (Var v) j k h below = omega (arith, h, below)
below_more (Const c) j k h below = tt

pub all_below_more : (args : List Operand) (j k : ℕ) → j ≤ k → AllBelow j args → AllBelow k args
all_below_more [] j k h below = tt
all_below_more (a ∷ args) j k h below = (below_more a.x j k h below.0, all_below_more args j k h below.1)

-- another operand in the place of one
pub below_with : (before behind : List Operand) (a b : Operand) (k : ℕ) → IsBelow k b.x → AllBelow k (before ++ a ∷ behind) → AllBelow k (before ++ b ∷ behind)
below_with [] behind a b k h below = (h, below.1)
below_with (c ∷ before) behind a b k h below = (below.0, below_with before behind a b k h below.1)

pub below_at : (before behind : List Operand) (a : Operand) (k : ℕ) → AllBelow k (before ++ a ∷ behind) → IsBelow k a.x
below_at [] behind a k below = below.0
below_at (c ∷ before) behind a k below = below_at before behind a k below.1

module _ (known : Known) (around : Around) where
  -- the value of one of the operands
  pub record OneOf (g : Ghost) (core : Core) (before behind : List Operand) (a : Operand) (vs : List Meant) : Type 0 where
    pub value : Meant
    pub held : Holds around.layout known g a.element (operand core.vars a.x) value
    pub other : (b : Operand) (h : Ghost) (mid : Core) (below : ℕ) → Grown g h → ((n : ℕ) → n < below → read mid.vars n ≡ read core.vars n) → AllBelow below (before ++ a ∷ behind)
        → Holds around.layout known h b.element (operand mid.vars b.x) value → Given known around h mid (before ++ b ∷ behind) vs

  pub all_given : (g h : Ghost) (core mid : Core) (below : ℕ) → Grown g h → ((n : ℕ) → n < below → read mid.vars n ≡ read core.vars n) → (args : List Operand) (vs : List Meant) → AllBelow below args → Given known around g core args vs → Given known around h mid args vs
  all_given g h core mid below grown same [] [] low given = tt
  all_given g h core mid below grown same [] (v ∷ vs) low given = absurd given
  all_given g h core mid below grown same (a ∷ args) [] low given = absurd given
  all_given g h core mid below grown same (a ∷ args) (v ∷ vs) low given =
      (subst (λ x. Holds around.layout known h a.element x v) (sym (operand_kept core mid below same a.x low.0)) (holds_grows grown given.0), all_given g h core mid below grown same args vs low.1 given.1)

  unfoldable pub one_of : (g : Ghost) (core : Core) (before behind : List Operand) (a : Operand) (vs : List Meant) → Given known around g core (before ++ a ∷ behind) vs → OneOf g core before behind a vs
  one_of g core [] behind a [] given = absurd given
  one_of g core [] behind a (v ∷ vs) given = record {
    value = v;
    held = given.0;
    other = λ b h mid below grown same low held. (held, all_given g h core mid below grown same behind vs low.1 given.1);
  }
  one_of g core (c ∷ before) behind a [] given = absurd given
  one_of g core (c ∷ before) behind a (v ∷ vs) given = (let it = one_of g core before behind a vs given.1 in record {
    value = it.value;
    held = it.held;
    other = λ b h mid below grown same low held. (subst (λ x. Holds around.layout known h c.element x v) (sym (operand_kept core mid below same c.x low.0)) (holds_grows grown given.0), it.other b h mid below grown same low.1 held);
  })

-- ---- the law

module _ (Good : World → List Meant → Type 0) (blocks more : ℕ) (known : Known) (around : Around) (o : RowOp) (covers : Covers) (asks : List Ask) (lowered : Writing) (place : Place) (before behind : List Operand) (a : Operand) (to : Option Element) (w : Writing)
    (apart : is_tuple around.layout 0 ≡ false) (go : Goes around.layout known a.element to) (done : IsDoneWhere Good blocks more known around o covers asks lowered place (before ++ operand_as around a to w ∷ behind) (written_for around a to w)) where
  abbrev c : IsConverted (λ p. HasConversion p around.layout) known around.layout a.element to (operand_asks around a to) a.x w
  c = values_are_converted known around.layout a.element to a.x w apart go

  abbrev next : Writing
  next = written_for around a to w

  next_long : length next.body.types ≡ length w.body.types + length c.new
  next_long = ap length c.types ∙ length-append w.body.types c.new

  abbrev new : List LlType
  new = c.new ++ done.new

  new_long : length new ≡ length c.new + length done.new
  new_long = length-append c.new done.new

  module _ (p : LlProgram) (numbers : Numbers) (raised : ℕ → Value) (arguments : List (List ℕ)) (rest : List LlOp) (e : LlExit) (frames : List Frame) (core : Core) (g : Ghost) (world : World) (vs : List Meant)
      (structs : HasLayout p around.layout) (has : HasAll p around.layout numbers raised core (operand_asks around a to ++ asks) w.found) (r : Represents around.layout known g world.heap world.left core.blocks core.statics) (left : world.left ≡ core.steps)
      (room : length w.body.types + length new ≤ length core.vars) (inside : place.variable < length w.body.types) (below : AllBelow (length w.body.types) (before ++ a ∷ behind)) (given : Given known around g core (before ++ a ∷ behind) vs) (good : Good world vs) where
    abbrev one : OneOf known around g core before behind a vs
    one = one_of known around g core before behind a vs given

    it : Came around.layout known (λ ghost y. Holds around.layout known ghost to y one.value) p arguments (At (c.ops ++ (done.ops ++ rest)) e frames core) (done.ops ++ rest) e frames core g world.heap world.left (length w.body.types) to (operand_as around a to w).x
    it = c.follows p numbers raised arguments (done.ops ++ rest) e frames core g world.heap world.left one.value structs
        (conversion_has p around.layout numbers raised core (type_seen around.layout a.element) (type_seen around.layout to) w.found (has_first (Has p around.layout numbers raised core) (operand_asks around a to) asks w.found has))
        r left (omega (arith, room, new_long)) (below_at before behind a (length w.body.types) below) one.held

    moved : Moved around.layout known p arguments (At (c.ops ++ (done.ops ++ rest)) e frames core) (done.ops ++ rest) e frames core g world.heap world.left (length w.body.types) (items_in to) (tuples_in to) it.end it.ghost
    moved = record { leads = it.leads; grown = it.grown; stands = it.stands; few = it.few; memory = it.memory; others = it.others; room = it.room; function = it.function; block = it.block }

    has_behind : HasAll p around.layout numbers raised it.end asks next.found
    has_behind = all_kept p around.layout numbers raised core it.end (ap (λ (c : Core). c.statics) it.memory) (ap (λ (c : Core). c.steps) it.memory) asks next.found
        (subst (λ found. HasAll p around.layout numbers raised core asks found) (sym c.asked) (has_second (Has p around.layout numbers raised core) (operand_asks around a to) asks w.found has))

    pub does : Follows (tuples_in to + blocks) known around place p arguments (At ((c.ops ++ done.ops) ++ rest) e frames core) rest e frames core g raised (references world.heap vs + (items_in to + more)) (length w.body.types) world (meant_op known.program covers o vs world)
    does =
        subst (λ ops. Follows (tuples_in to + blocks) known around place p arguments (At ops e frames core) rest e frames core g raised (references world.heap vs + (items_in to + more)) (length w.body.types) world (meant_op known.program covers o vs world)) (sym (append_assoc c.ops done.ops rest))
        (then_follows known around place p arguments rest e frames raised world (tuples_in to) (items_in to) (references world.heap vs + more) (references world.heap vs + (items_in to + more)) blocks (tuples_in to + blocks) (length w.body.types) (length next.body.types) moved (omega (arith, next_long)) (omega arith) (omega arith) (meant_op known.program covers o vs world)
        (done.follows p numbers raised arguments rest e frames it.end it.ghost world vs structs has_behind it.stands (left ∙ sym (ap (λ (c : Core). c.steps) it.memory)) (let q = it.room in omega (arith, room, new_long, next_long, q)) (omega (arith, inside, next_long))
        (below_with before behind a (operand_as around a to w) (length next.body.types) (subst (λ k. IsBelow k (operand_as around a to w).x) (sym next_long) (c.under (below_at before behind a (length w.body.types) below))) (all_below_more (before ++ a ∷ behind) (length w.body.types) (length next.body.types) (omega (arith, next_long)) below))
        (one.other (operand_as around a to w) it.ghost it.end (length w.body.types) it.grown it.others below it.fine) good))

pub operand_converted : (Good : World → List Meant → Type 0) → OperandsAreConverted Good
operand_converted Good blocks more known around o covers asks lowered place before behind a to w apart go done =
    let c = values_are_converted known around.layout a.element to a.x w apart go in
    let next = written_for around a to w in
    record {
      ops = c.ops ++ done.ops;
      new = c.new ++ done.new;
      asked = done.asked ∙ ap (all_asked asks) c.asked ∙ sym (asked_both (operand_asks around a to) asks w.found);
      written = done.written ∙ ap (λ l. l ++ done.ops) c.written ∙ append_assoc w.body.ops c.ops done.ops;
      types = done.types ∙ ap (λ l. l ++ done.new) c.types ∙ append_assoc w.body.types c.new done.new;
      follows = λ p numbers raised arguments rest e frames core g world vs structs has r left room inside below given good.
          does Good blocks more known around o covers asks lowered place before behind a to w apart go done p numbers raised arguments rest e frames core g world vs structs has r left room inside below given good;
    }
