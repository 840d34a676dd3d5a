-- Operations on a dict and a key, where the dict comes first.
use Rattle.std.proofs.Common.{◌≡◌, ℕ, ℤ, ◌+◌, List, [], ◌∷◌, ◌++◌, Option, Some, None, refl, sym, ap, ◌∙◌, arith}
use Rattle.std.specs.Prelude.{codes}
use Rattle.csub_tree.specs.State.{Value, Core}
use Rattle.rpy_base.specs.declared.outcome.FailName.TheVariants as fail
use Rattle.rpy_tree.specs.Value.{Value as Meant, Nothing}
use Rattle.rpy_meaning.specs.declared.row.RowOp.{RowOp}
use Rattle.rpy_meaning.specs.declared.row.RowOp.TheVariants as row
use Rattle.rpy_meaning.specs.Operations.{op as meant_op}
use Rattle.rpy_meaning.specs.World.{World, failure}
use Rattle.ll_code.specs.declared.program.LlProgram.{LlProgram}
use Rattle.ll_build.specs.declared.needs.Numbers.{Numbers}
use Rattle.rtyper_layout.specs.declared.dicts.Mapping.{Mapping}
use Rattle.rtyper_data.specs.declared.found.Found.{Found}
use Rattle.rtyper_data.specs.declared.small.Keyed.TheVariants as keyed
use Rattle.rtyper_data.specs.declared.small.Small.TheVariants as small
use Rattle.rtyper_data.specs.Converting.{by_small}
use Rattle.ll_code.specs.declared.program.LlType.TheVariants as type
use Rattle.rtyper_data.specs.Seen.{Around, Operand, Place, type_at, Writing, set}
use Rattle.rtyper_dict.specs.Lowering.{delete, get, get_as, get_if, get_to, give_value, index, lower_dict_op, of_dict, of_dict_or, of_first, of_three, of_two, other_value}
use Rattle.rtyper_dict.specs.Operands.{dict_of, done_by}
use Rattle.rtyper_dict.specs.Parts.{shape_of}
use Rattle.rtyper_op.specs.Placing.{says_nothing}
use Rattle.list_shape.specs.Shapes.{taking}
use Rattle.lower_laws.specs.Asked.{Ask, Make}
use Rattle.object_laws.specs.Done.{AllAsked}
use Rattle.object_laws.specs.Done as objects
use Rattle.object_laws.specs.Ghost.{Ghost}
use Rattle.object_laws.specs.Known.{Known}
use Rattle.object_laws.specs.Values.{Given}
use Rattle.object_laws.proofs.Valued.{stays_there}
use Rattle.dict_op_laws.specs.Dicts.{there_asks}
use Rattle.dict_find_laws.specs.Asked.{Has as HasLooking}
use Rattle.dict_find_laws.specs.Lookups.{SecondIsThere}
use Rattle.dict_find_laws.proofs.Getting.{no_void}
use Rattle.dict_find_laws.proofs.GotOrNone.{values_are_got_or_none}
use Rattle.dict_find_laws.proofs.Read.{values_are_read}
use Rattle.dict_change_laws.specs.Asked.{Has as HasChanging}
use Rattle.dict_change_laws.specs.Changed.{KeysAreThere}
use Rattle.dict_change_laws.proofs.Deleting.{entries_are_deleted}
use Rattle.dict_conversion_laws.specs.Asked.{HasAll}
use Rattle.dict_conversion_laws.specs.Changed.{EntriesAreDeleted}
use Rattle.dict_conversion_laws.specs.Lookups.{IsAskedFor, IsTold, ValuesAreGot, ValuesAreGotOrNone, ValuesAreRead, key_asks, key_blocks, key_references}
use Rattle.dict_conversion_laws.proofs.Keyed.{as_before, as_it_is, at_most, dict_again, dict_comes_first, dict_first, entry_same, key_again, key_first, shape_again, shape_first, the_dict, the_key, w1, w2}
use Rattle.std.specs.Prelude.{◌≢◌}
use Rattle.std.proofs.Common.{subst}
use Rattle.rtyper_data.specs.Converting.{give}
use Rattle.rtyper_data.specs.Seen.{kind_of, type_of}
use Rattle.rtyper_dict.specs.Lowering.{store}
use Rattle.rtyper_dict.specs.Operands.{value_in}
use Rattle.conversion_laws.specs.Converted.{items_in, tuples_in}
use Rattle.conversion_laws.specs.Going.{Goes}
use Rattle.dict_change_laws.specs.Changed.{CanStore}
use Rattle.dict_conversion_laws.specs.Changed.{ValuesAreStored}
use Rattle.dict_conversion_laws.specs.Done.{IsDoneWhere}
use Rattle.dict_conversion_laws.specs.Operands.{operand_asks}
use Rattle.dict_conversion_laws.proofs.Keyed.{kind_sure, same_covers}
use Rattle.dict_conversion_laws.proofs.Setting.{store_done}
use Rattle.ann_element.specs.declared.element.Element.{Element}
use Rattle.rtyper_layout.specs.declared.kind.Kind.TheVariants as kind
use Rattle.object_laws.specs.Staying.{Stays}
use Rattle.dict_find_laws.specs.Lookups.{HasValues}
use Rattle.csub_tree.specs.declared.tree.COperand.{COperand}
use Rattle.rtyper_dict.specs.Operands.{key_in}
use Rattle.dict_conversion_laws.proofs.Getting.{got_done}
use Rattle.conversion_laws.specs.Asked.{asks_for}
use Rattle.dict_conversion_laws.specs.Lookups.{ValuesAreReadAs}
use Rattle.dict_conversion_laws.proofs.Reading.{read_done}
use Rattle.rtyper_layout.specs.Kinds.{kind_seen}
use Rattle.rtyper_layout.specs.Types.{type_seen}
use Rattle.dict_conversion_laws.specs.Lookups.{ValuesAreGotAs}
use Rattle.dict_conversion_laws.proofs.GettingAs.{got_as_done}
use Rattle.dict_conversion_laws.proofs.Valued.{goes_there}

module _ (known : Known) (around : Around) (a b : Operand) (w : Writing) (n : ℕ) (m : Mapping) (is : IsAskedFor around known a b n m) where
  abbrev dict : Operand
  dict = the_dict known around a b n m is w

  abbrev key : Operand
  key = the_key known around a b n m is w

  abbrev next : Writing
  next = w2 known around a b n m is w

  told : (Good : World → List Meant → Type 0) (Had : LlProgram → Numbers → (ℕ → Value) → Core → Ask → Found → Type 0) (o : RowOp) (asks : List Ask) (place : Place) (behind : List Operand)
      → ((g : Ghost) (core : Core) (v : Meant) (vs : List Meant) → Given known around g core behind vs → (world : World) → meant_op known.program w.found.covered o (Nothing ∷ v ∷ vs) world ≡ failure w.found.covered.attribute 9 fail.Attribute world)
      → lower_dict_op around o place (a ∷ b ∷ behind) w ≡ lower_dict_op around o place (dict ∷ key ∷ behind) next
      → ((p : LlProgram) (numbers : Numbers) (raised : ℕ → Value) (core : Core) → HasAll p around.layout numbers raised core asks next.found → AllAsked (Had p numbers raised core) asks next.found)
      → objects.IsDoneWhere Good Had 0 known around o next.found.covered (there_asks around dict next.found.covered ++ asks) (lower_dict_op around o place (dict ∷ key ∷ behind) next) place (dict ∷ key ∷ behind) next
      → IsTold Good (key_blocks known m) (key_references known m) known around o w.found.covered (key_asks around known a b m w.found.covered asks) place (a ∷ b ∷ behind) w
  told Good Had o asks place behind fails same had done =
      at_most (key_blocks known m + 0) (key_references known m + 0) (key_blocks known m) (key_references known m) (omega arith) (omega arith)
      (dict_comes_first known around a b n m is w Good 0 0 o asks (lower_dict_op around o place (a ∷ b ∷ behind) w) place behind fails
      (as_before known around a b n m is w Good Had 0 o asks (lower_dict_op around o place (a ∷ b ∷ behind) w) (lower_dict_op around o place (dict ∷ key ∷ behind) next) place (dict ∷ key ∷ behind) same had done))

  -- ---- what is written

  shapes_same : (o : RowOp) (place : Place) (behind : List Operand) → of_dict around o place (shape_of m) (a ∷ b ∷ behind) w ≡ of_dict around o place (shape_of m) (dict ∷ key ∷ behind) next
      → of_dict_or around o place (dict_of around a) (a ∷ b ∷ behind) w ≡ of_dict_or around o place (dict_of around dict) (dict ∷ key ∷ behind) next
  shapes_same o place behind same =
      ap (λ d. of_dict_or around o place d (a ∷ b ∷ behind) w) (shape_first known around a b n m is w) ∙ same ∙ ap (λ d. of_dict_or around o place d (dict ∷ key ∷ behind) next) (sym (shape_again known around a b n m is w))

  read_same : (literal : Option ℤ) (place : Place) → lower_dict_op around (row.Index literal) place (a ∷ b ∷ []) w ≡ lower_dict_op around (row.Index literal) place (dict ∷ key ∷ []) next
  unfolding lower_dict_op of_first of_dict of_two index
  read_same literal place = shapes_same (row.Index literal) place []
      (ap (λ made. taking made (λ at next. give_value around place (shape_of m) (by_small (small.Keyed (keyed.Value (shape_of m).dict)) (shape_of m).stored_value (at.0 ∷ at.1 ∷ []) next))) (entry_same known around a b n m is w (keyed.Entry (shape_of m).dict)))

  deleted_same : (place : Place) → lower_dict_op around row.DeleteIndex place (a ∷ b ∷ []) w ≡ lower_dict_op around row.DeleteIndex place (dict ∷ key ∷ []) next
  unfolding lower_dict_op of_first of_dict of_two delete
  deleted_same place = shapes_same row.DeleteIndex place []
      (ap (λ made. taking made (λ at next. says_nothing around place (done_by (keyed.Remove (shape_of m).dict) (at.0 ∷ at.1 ∷ []) next))) (entry_same known around a b n m is w (keyed.Entry (shape_of m).dict)))

  got_same : (place : Place) (other : Option Operand) → (type_at around place ≡ type.Void → ⊥) → get around place (shape_of m) a b other w ≡ get around place (shape_of m) dict key other next
  unfolding get get_as
  got_same place other there =
      ap (λ made. taking made (λ x next. get_to around place (shape_of m) x b other (type_at around place) next)) (dict_first known around a b n m is w)
      ∙ no_void around place (shape_of m) dict.x b other (type_at around place) (w1 known around a b n m is w) there
      ∙ ap (λ made. taking made (λ k next. taking (other_value around (type_at around place) other next) (λ v last. set place.variable (by_small (small.Keyed (keyed.Get (shape_of m).dict (type_at around place))) (type_at around place) (dict.x ∷ k ∷ v ∷ []) last)))) (key_first known around a b n m is w ∙ sym (key_again known around a b n m is w))
      ∙ sym (no_void around place (shape_of m) dict.x key other (type_at around place) next there)
      ∙ ap (λ made. taking made (λ x next. get_to around place (shape_of m) x key other (type_at around place) next)) (sym (dict_again known around a b n m is w))

  got_three : (site : Option ℕ) (place : Place) (c : Operand) → (type_at around place ≡ type.Void → ⊥)
      → lower_dict_op around (row.Method (codes "get") site) place (a ∷ b ∷ c ∷ []) w ≡ lower_dict_op around (row.Method (codes "get") site) place (dict ∷ key ∷ c ∷ []) next
  unfolding lower_dict_op of_first of_dict of_three get_if
  got_three site place c there = shapes_same (row.Method (codes "get") site) place (c ∷ []) (got_same place (Some c) there)

  got_two : (site : Option ℕ) (place : Place) → (type_at around place ≡ type.Void → ⊥)
      → lower_dict_op around (row.Method (codes "get") site) place (a ∷ b ∷ []) w ≡ lower_dict_op around (row.Method (codes "get") site) place (dict ∷ key ∷ []) next
  unfolding lower_dict_op of_first of_dict of_two get_if
  got_two site place there = shapes_same (row.Method (codes "get") site) place [] (got_same place None there)

-- ---- the laws

module _ (known : Known) (around : Around) (g : Ghost) (core : Core) where
  pub none_given : {A : Type 0} (vs : List Meant) → Given known around g core [] vs → (vs ≡ [] → A) → A
  none_given [] given f = f refl
  none_given (v ∷ vs) given f = absurd given

  pub one_given : {A : Type 0} (c : Operand) (vs : List Meant) → Given known around g core (c ∷ []) vs → ((y : Meant) → vs ≡ y ∷ [] → A) → A
  one_given c [] given f = absurd given
  one_given c (y ∷ []) given f = f y refl
  one_given c (y ∷ v ∷ vs) given f = absurd given.1

pub values_are_read_so : ValuesAreRead
values_are_read_so known around place a b w literal n m value is values stay =
    told known around a b w n m is (SecondIsThere m) (λ p. HasLooking p around.layout) (row.Index literal) (Make (small.Keyed (keyed.Entry n)) ∷ Make (small.Keyed (keyed.Value n)) ∷ []) place []
    (λ g core v vs given world. none_given known around g core vs given (λ h. ap (λ vs. meant_op known.program w.found.covered (row.Index literal) (Nothing ∷ v ∷ vs) world) h)) (read_same known around a b w n m is literal place)
    (λ p numbers raised core has. (has.0, (has.1.0, tt)))
    (values_are_read known around place (the_dict known around a b n m is w) (the_key known around a b n m is w) (w2 known around a b n m is w) literal n m value (as_it_is known around a b n m is w) values stay)

pub entries_are_deleted_so : EntriesAreDeleted
entries_are_deleted_so known around place a b w n m is nothing =
    told known around a b w n m is (KeysAreThere m) (λ p. HasChanging p around.layout) row.DeleteIndex (Make (small.Keyed (keyed.Entry n)) ∷ Make (small.Keyed (keyed.Remove n)) ∷ []) place []
    (λ g core v vs given world. none_given known around g core vs given (λ h. ap (λ vs. meant_op known.program w.found.covered row.DeleteIndex (Nothing ∷ v ∷ vs) world) h)) (deleted_same known around a b w n m is place)
    (λ p numbers raised core has. (has.0, (has.1.0, tt)))
    (entries_are_deleted known around place (the_dict known around a b n m is w) (the_key known around a b n m is w) (w2 known around a b n m is w) n m (as_it_is known around a b n m is w) nothing)

pub values_are_got_or_none_so : ValuesAreGotOrNone
values_are_got_or_none_so known around place a b w site n m value is values stay may =
    told known around a b w n m is (SecondIsThere m) (λ p. HasLooking p around.layout) (row.Method (codes "get") site) (Make (small.Keyed (keyed.Get n (type_at around place))) ∷ []) place []
    (λ g core v vs given world. none_given known around g core vs given (λ h. ap (λ vs. meant_op known.program w.found.covered (row.Method (codes "get") site) (Nothing ∷ v ∷ vs) world) h)) (got_two known around a b w n m is site place (stays_there stay))
    (λ p numbers raised core has. (has.0.gets, tt))
    (values_are_got_or_none known around place (the_dict known around a b n m is w) (the_key known around a b n m is w) (w2 known around a b n m is w) site n m value (as_it_is known around a b n m is w) values stay may)

-- ---- what is stored

module _ (known : Known) (around : Around) (place : Place) (a b c : Operand) (w : Writing) (n : ℕ) (m : Mapping) (value : Element) (is : IsAskedFor around known a b n m) (values : HasValues around known m value)
    (go : Goes around.layout known c.element (Some value)) (real : kind_of c ≢ kind.Never) (given_on : Stays around.layout known c.element place.element) where
  abbrev head : Operand
  head = the_dict known around a b n m is w

  abbrev this : Operand
  this = the_key known around a b n m is w

  abbrev behind : Writing
  behind = w2 known around a b n m is w

  abbrev asks : List Ask
  asks = operand_asks around c (Some value) ++ Make (small.Keyed (keyed.Store n)) ∷ []

  abbrev store_from : COperand → COperand × Writing → Writing
  store_from x made = taking made (λ k mid. taking (value_in around (shape_of m) c mid) (λ v last. give around place c.x (type_of around c) (done_by (keyed.Store (shape_of m).dict) (x ∷ k ∷ v ∷ []) last)))

  stored_same : lower_dict_op around row.StoreIndex place (a ∷ b ∷ c ∷ []) w ≡ lower_dict_op around row.StoreIndex place (head ∷ this ∷ c ∷ []) behind
  unfolding lower_dict_op of_first of_dict of_three store
  stored_same = shapes_same known around a b w n m is row.StoreIndex place (c ∷ [])
      (ap (λ made. taking made (λ x next. store_from x (key_in around (shape_of m) b next))) (dict_first known around a b n m is w)
      ∙ ap (store_from head.x) (key_first known around a b n m is w ∙ sym (key_again known around a b n m is w))
      ∙ ap (λ made. taking made (λ x next. store_from x (key_in around (shape_of m) this next))) (sym (dict_again known around a b n m is w)))

  fails : (g : Ghost) (core : Core) (v : Meant) (vs : List Meant) → Given known around g core (c ∷ []) vs → (world : World) → meant_op known.program w.found.covered row.StoreIndex (Nothing ∷ v ∷ vs) world ≡ failure w.found.covered.attribute 9 fail.Attribute world
  fails g core v vs given world = one_given known around g core c vs given (λ y h. ap (λ vs. meant_op known.program w.found.covered row.StoreIndex (Nothing ∷ v ∷ vs) world) h)

  pub stored_so : IsTold (CanStore m) (key_blocks known m + (tuples_in (Some value) + 2)) (key_references known m + items_in (Some value)) known around row.StoreIndex w.found.covered (key_asks around known a b m w.found.covered asks) place (a ∷ b ∷ c ∷ []) w
  stored_so =
      dict_comes_first known around a b n m is w (CanStore m) (tuples_in (Some value) + 2) (items_in (Some value)) row.StoreIndex asks (lower_dict_op around row.StoreIndex place (a ∷ b ∷ c ∷ []) w) place (c ∷ []) fails
      (subst (λ l. IsDoneWhere (CanStore m) (tuples_in (Some value) + 2) (items_in (Some value)) known around row.StoreIndex w.found.covered asks l place (head ∷ this ∷ c ∷ []) behind) (sym stored_same)
      (subst (λ k. IsDoneWhere (CanStore m) (tuples_in (Some value) + 2) (items_in (Some value)) known around row.StoreIndex k asks (lower_dict_op around row.StoreIndex place (head ∷ this ∷ c ∷ []) behind) place (head ∷ this ∷ c ∷ []) behind) (same_covers known around a b n m is w)
      (store_done known around place head this c behind n m value (as_it_is known around a b n m is w) (kind_sure known around a b n m is w) values go real given_on is.apart)))

pub values_are_stored_so : ValuesAreStored
values_are_stored_so known around place a b c w n m value is values go real given_on = stored_so known around place a b c w n m value is values go real given_on

-- ---- what is got

module _ (known : Known) (around : Around) (place : Place) (a b c : Operand) (w : Writing) (site : Option ℕ) (n : ℕ) (m : Mapping) (value : Element) (is : IsAskedFor around known a b n m) (values : HasValues around known m value)
    (stay : Stays around.layout known (Some value) place.element) (go : Goes around.layout known c.element place.element) where
  abbrev got_head : Operand
  got_head = the_dict known around a b n m is w

  abbrev got_key : Operand
  got_key = the_key known around a b n m is w

  abbrev got_behind : Writing
  got_behind = w2 known around a b n m is w

  abbrev got_asks : List Ask
  got_asks = operand_asks around c place.element ++ Make (small.Keyed (keyed.Get n (type_at around place))) ∷ []

  abbrev gets : RowOp
  gets = row.Method (codes "get") site

  got_fails : (g : Ghost) (core : Core) (v : Meant) (vs : List Meant) → Given known around g core (c ∷ []) vs → (world : World) → meant_op known.program w.found.covered gets (Nothing ∷ v ∷ vs) world ≡ failure w.found.covered.attribute 9 fail.Attribute world
  got_fails g core v vs given world = one_given known around g core c vs given (λ y h. ap (λ vs. meant_op known.program w.found.covered gets (Nothing ∷ v ∷ vs) world) h)

  pub got_so : IsTold (SecondIsThere m) (key_blocks known m + tuples_in place.element) (key_references known m + items_in place.element) known around gets w.found.covered (key_asks around known a b m w.found.covered got_asks) place (a ∷ b ∷ c ∷ []) w
  got_so =
      dict_comes_first known around a b n m is w (SecondIsThere m) (tuples_in place.element) (items_in place.element) gets got_asks (lower_dict_op around gets place (a ∷ b ∷ c ∷ []) w) place (c ∷ []) got_fails
      (subst (λ l. IsDoneWhere (SecondIsThere m) (tuples_in place.element) (items_in place.element) known around gets w.found.covered got_asks l place (got_head ∷ got_key ∷ c ∷ []) got_behind) (sym (got_three known around a b w n m is site place c (stays_there stay)))
      (subst (λ k. IsDoneWhere (SecondIsThere m) (tuples_in place.element) (items_in place.element) known around gets k got_asks (lower_dict_op around gets place (got_head ∷ got_key ∷ c ∷ []) got_behind) place (got_head ∷ got_key ∷ c ∷ []) got_behind) (same_covers known around a b n m is w)
      (got_done known around place got_head got_key c got_behind site n m value (as_it_is known around a b n m is w) (kind_sure known around a b n m is w) values stay go is.apart)))

pub values_are_got_so : ValuesAreGot
values_are_got_so known around place a b c w site n m value is values stay go = got_so known around place a b c w site n m value is values stay go

-- ---- what is read, and converted

module _ (known : Known) (around : Around) (place : Place) (a b : Operand) (w : Writing) (literal : Option ℤ) (n : ℕ) (m : Mapping) (value : Element) (is : IsAskedFor around known a b n m) (values : HasValues around known m value)
    (go : Goes around.layout known (Some value) place.element) (real : kind_seen (Some value) ≢ kind.Never) where
  abbrev read_head : Operand
  read_head = the_dict known around a b n m is w

  abbrev read_key : Operand
  read_key = the_key known around a b n m is w

  abbrev read_behind : Writing
  read_behind = w2 known around a b n m is w

  abbrev read_asks : List Ask
  read_asks = Make (small.Keyed (keyed.Entry n)) ∷ Make (small.Keyed (keyed.Value n)) ∷ asks_for around.layout (type_seen around.layout (Some value)) (type_at around place)

  pub read_as : IsTold (SecondIsThere m) (key_blocks known m + tuples_in place.element) (key_references known m + items_in place.element) known around (row.Index literal) w.found.covered (key_asks around known a b m w.found.covered read_asks) place (a ∷ b ∷ []) w
  read_as =
      dict_comes_first known around a b n m is w (SecondIsThere m) (tuples_in place.element) (items_in place.element) (row.Index literal) read_asks (lower_dict_op around (row.Index literal) place (a ∷ b ∷ []) w) place []
      (λ g core v vs given world. none_given known around g core vs given (λ h. ap (λ vs. meant_op known.program w.found.covered (row.Index literal) (Nothing ∷ v ∷ vs) world) h))
      (subst (λ l. IsDoneWhere (SecondIsThere m) (tuples_in place.element) (items_in place.element) known around (row.Index literal) w.found.covered read_asks l place (read_head ∷ read_key ∷ []) read_behind) (sym (read_same known around a b w n m is literal place))
      (subst (λ k. IsDoneWhere (SecondIsThere m) (tuples_in place.element) (items_in place.element) known around (row.Index literal) k read_asks (lower_dict_op around (row.Index literal) place (read_head ∷ read_key ∷ []) read_behind) place (read_head ∷ read_key ∷ []) read_behind) (same_covers known around a b n m is w)
      (read_done known around place read_head read_key read_behind literal n m value (as_it_is known around a b n m is w) (kind_sure known around a b n m is w) values go real is.apart)))

pub values_are_read_as : ValuesAreReadAs
values_are_read_as known around place a b w literal n m value is values go real = read_as known around place a b w literal n m value is values go real

-- ---- what is got, and converted

module _ (known : Known) (around : Around) (place : Place) (a b c : Operand) (w : Writing) (site : Option ℕ) (n : ℕ) (m : Mapping) (value : Element) (is : IsAskedFor around known a b n m) (values : HasValues around known m value)
    (go_value : Goes around.layout known (Some value) place.element) (real : kind_seen (Some value) ≢ kind.Never) (go : Goes around.layout known c.element place.element) where
  abbrev as_head : Operand
  as_head = the_dict known around a b n m is w

  abbrev as_key : Operand
  as_key = the_key known around a b n m is w

  abbrev as_behind : Writing
  as_behind = w2 known around a b n m is w

  abbrev as_asks : List Ask
  as_asks = operand_asks around c place.element ++ Make (small.Keyed (keyed.Get n (type_at around place))) ∷ []

  abbrev gets_as : RowOp
  gets_as = row.Method (codes "get") site

  as_fails : (g : Ghost) (core : Core) (v : Meant) (vs : List Meant) → Given known around g core (c ∷ []) vs → (world : World) → meant_op known.program w.found.covered gets_as (Nothing ∷ v ∷ vs) world ≡ failure w.found.covered.attribute 9 fail.Attribute world
  as_fails g core v vs given world = one_given known around g core c vs given (λ y h. ap (λ vs. meant_op known.program w.found.covered gets_as (Nothing ∷ v ∷ vs) world) h)

  pub got_as : IsTold (SecondIsThere m) (key_blocks known m + (tuples_in place.element + tuples_in place.element)) (key_references known m + (items_in place.element + items_in place.element)) known around gets_as w.found.covered (key_asks around known a b m w.found.covered as_asks) place (a ∷ b ∷ c ∷ []) w
  got_as =
      dict_comes_first known around a b n m is w (SecondIsThere m) (tuples_in place.element + tuples_in place.element) (items_in place.element + items_in place.element) gets_as as_asks (lower_dict_op around gets_as place (a ∷ b ∷ c ∷ []) w) place (c ∷ []) as_fails
      (subst (λ l. IsDoneWhere (SecondIsThere m) (tuples_in place.element + tuples_in place.element) (items_in place.element + items_in place.element) known around gets_as w.found.covered as_asks l place (as_head ∷ as_key ∷ c ∷ []) as_behind) (sym (got_three known around a b w n m is site place c (goes_there go_value real)))
      (subst (λ k. IsDoneWhere (SecondIsThere m) (tuples_in place.element + tuples_in place.element) (items_in place.element + items_in place.element) known around gets_as k as_asks (lower_dict_op around gets_as place (as_head ∷ as_key ∷ c ∷ []) as_behind) place (as_head ∷ as_key ∷ c ∷ []) as_behind) (same_covers known around a b n m is w)
      (got_as_done known around place as_head as_key c as_behind site n m value (as_it_is known around a b n m is w) (kind_sure known around a b n m is w) values go_value real go is.apart)))

pub values_are_got_as : ValuesAreGotAs
values_are_got_as known around place a b c w site n m value is values go_value real go = got_as known around place a b c w site n m value is values go_value real go
