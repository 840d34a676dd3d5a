-- What is asked of worlds and operands, from what holds of an operation.
use Rattle.std.proofs.Common.{◌≡◌, ◌≢◌, ℕ, ◌-◌, ◌^◌, ◌&&◌, Bool, true, false, List, [], ◌∷◌, Option, Some, None, refl, sym, ap, ◌∙◌, subst, arith}
use Rattle.std.specs.Prelude.{slice_get, map}
use Rattle.ann_element.specs.declared.element.Element.TheVariants as element
use Rattle.csub_tree.specs.State.{Value as Low, Core}
use Rattle.csub_tree.specs.Statement.{operand}
use Rattle.flow_graph.specs.declared.graph.Op.{Op}
use Rattle.rpy_tree.specs.declared.syntax.CmpOp.TheVariants as cmp
use Rattle.rpy_tree.specs.Value.{Value, Values, none, more, Word, Flag, Text, Nothing, Tuple, Fun, Ref, Object, Listed, Mapped, Instance}
use Rattle.rpy_meaning.specs.Laws.{HasRoom}
use Rattle.rpy_meaning.specs.Operations.{truth_in}
use Rattle.rpy_meaning.specs.World.{World}
use Rattle.rpy_meaning.specs.declared.row.RowOp.{RowOp}
use Rattle.rpy_meaning.specs.declared.row.RowOp.TheVariants as row
use Rattle.rtyper_layout.specs.declared.dicts.Mapping.{Mapping}
use Rattle.rtyper_layout.specs.declared.kind.Kind.TheVariants as kind
use Rattle.rtyper_layout.specs.Kinds.{kind_seen}
use Rattle.rtyper_list.specs.Operands.{of_list}
use Rattle.lower_laws.specs.Values.{is_plain}
use Rattle.rtyper_program.specs.Seen.{Lowered, element_at, operand_of}
use Rattle.object_laws.specs.Dicts.{keys_of}
use Rattle.object_laws.specs.Ghost.{Ghost}
use Rattle.object_laws.specs.Represents.{Represents}
use Rattle.object_laws.specs.Values.{Holds, Plain, Alone, Items, Listed as AsList, Mapped as AsDict, Made, Function, Missing, Given, of_dict}
use Rattle.class_laws.specs.Instances as classes
use Rattle.list_laws.specs.Presence as lists
use Rattle.dict_find_laws.specs.Keys.{AllAreThere, IsThere}
use Rattle.dict_find_laws.specs.Lookups.{FirstIsThere, SecondIsThere}
use Rattle.dict_change_laws.specs.Changed.{AreThere, EntriesAreFew, KeysAreThere}
use Rattle.flow_runs.specs.Good.{IsGood, IsTold, IsOfClass, InstanceIsBelow, OfFirst, KeyIsWhole, FirstIsWhole, SecondIsWhole, HasWholeKeys, KeysAreWhole, is_whole, are_whole}
use Rattle.run_laws.specs.Points.{Setting, is_keyed}
use Rattle.rtyped_runs.specs.Conditions.{ConditionsHold, ConditionsHoldOf, has_key_first, has_key_second}
use Rattle.rtyped_runs.specs.Laws.{args_of}

first_of_both : (b c : Bool) → (b && c) ≡ true → b ≡ true
first_of_both true c h = refl
first_of_both false c h = h

second_of_both : (b c : Bool) → (b && c) ≡ true → c ≡ true
second_of_both true c h = h
second_of_both false c h = absurd (cc)

mutual
  whole_is_there : (v : Value) → is_whole v ≡ true → IsThere v
  whole_is_there Nothing h = absurd (cc)
  whole_is_there (Tuple vs) h = all_whole vs h
  whole_is_there (Word z) h = tt
  whole_is_there (Flag b) h = tt
  whole_is_there (Text bytes) h = tt
  whole_is_there (Fun f) h = tt
  whole_is_there (Ref r) h = tt

  all_whole : (vs : Values) → are_whole vs ≡ true → AllAreThere vs
  all_whole none h = tt
  all_whole (more v vs) h = (whole_is_there v (first_of_both (is_whole v) (are_whole vs) h), all_whole vs (second_of_both (is_whole v) (are_whole vs) h))

all_there : (pairs : List (Value × Value)) → KeysAreWhole pairs → AreThere (keys_of pairs)
all_there [] h = tt
all_there (pair ∷ pairs) h = (whole_is_there pair.0 h.0, all_there pairs h.1)

module _ (w : World) (keys : (r : ℕ) → HasWholeKeys (slice_get w.heap r)) (m : Mapping) where
  entries : (r : ℕ) (pairs : List (Value × Value)) → slice_get w.heap r ≡ Some (Mapped pairs) → AreThere (keys_of pairs)
  entries r pairs is = all_there pairs (subst HasWholeKeys is (keys r))

  second_there : (vs : List Value) → SecondIsWhole vs → KeysAreThere m w vs
  second_there [] h = tt
  second_there (Ref r ∷ key ∷ vs) h = λ indexed. (whole_is_there key h, entries r)
  second_there (Ref r ∷ []) h = tt
  second_there (Word z ∷ vs) h = tt
  second_there (Flag b ∷ vs) h = tt
  second_there (Text bytes ∷ vs) h = tt
  second_there (Nothing ∷ vs) h = tt
  second_there (Tuple parts ∷ vs) h = tt
  second_there (Fun f ∷ vs) h = tt

second_key : (m : Mapping) (w : World) (vs : List Value) → SecondIsWhole vs → SecondIsThere m w vs
second_key m w [] h = tt
second_key m w (d ∷ []) h = tt
second_key m w (d ∷ key ∷ vs) h = λ indexed. whole_is_there key h

first_key : (m : Mapping) (w : World) (vs : List Value) → FirstIsWhole vs → FirstIsThere m w vs
first_key m w [] h = tt
first_key m w (key ∷ vs) h = λ indexed. whole_is_there key h

few_entries : (w : World) → HasRoom (2 ^ 62 - 1) w → (vs : List Value) → EntriesAreFew w vs
few_entries w room [] = tt
few_entries w room (Ref r ∷ vs) = (let h = room r in omega (arith, h))
few_entries w room (Word z ∷ vs) = tt
few_entries w room (Flag b ∷ vs) = tt
few_entries w room (Text bytes ∷ vs) = tt
few_entries w room (Nothing ∷ vs) = tt
few_entries w room (Tuple parts ∷ vs) = tt
few_entries w room (Fun f ∷ vs) = tt

-- which operand is a key
second_of : (o : RowOp) (vs : List Value) → has_key_second o ≡ true → KeyIsWhole o vs → SecondIsWhole vs
second_of (row.Word a) vs h k = absurd (cc)
second_of (row.Str a) vs h k = absurd (cc)
second_of (row.Bool a) vs h k = absurd (cc)
second_of row.None vs h k = absurd (cc)
second_of (row.Constant a) vs h k = absurd (cc)
second_of row.Copy vs h k = absurd (cc)
second_of (row.Unary a) vs h k = absurd (cc)
second_of (row.Binary a b) vs h k = absurd (cc)
second_of row.AddTo vs h k = absurd (cc)
second_of row.CheckedNeg vs h k = absurd (cc)
second_of (row.Checked a) vs h k = absurd (cc)
second_of row.Not vs h k = absurd (cc)
second_of row.Truth vs h k = absurd (cc)
second_of row.Intmask vs h k = absurd (cc)
second_of row.Min vs h k = absurd (cc)
second_of row.Max vs h k = absurd (cc)
second_of row.Len vs h k = absurd (cc)
second_of row.Ord vs h k = absurd (cc)
second_of row.Chr vs h k = absurd (cc)
second_of row.ToStr vs h k = absurd (cc)
second_of row.ToInt vs h k = absurd (cc)
second_of row.Write vs h k = absurd (cc)
second_of (row.IsInstance a) vs h k = absurd (cc)
second_of (row.Index a) vs h k = k
second_of row.StoreIndex vs h k = k
second_of row.DeleteIndex vs h k = k
second_of (row.Attr a) vs h k = absurd (cc)
second_of (row.StoreAttr a) vs h k = absurd (cc)
second_of (row.Slice a b c) vs h k = absurd (cc)
second_of (row.AllButLast a) vs h k = absurd (cc)
second_of row.Tuple vs h k = absurd (cc)
second_of (row.List a) vs h k = absurd (cc)
second_of (row.Dict a) vs h k = absurd (cc)
second_of (row.Comprehension a) vs h k = absurd (cc)
second_of row.AddItem vs h k = absurd (cc)
second_of (row.Call a) vs h k = absurd (cc)
second_of (row.CallOf a b) vs h k = absurd (cc)
second_of row.CallValue vs h k = absurd (cc)
second_of (row.New a) vs h k = absurd (cc)
second_of (row.Method a b) vs h k = k
second_of row.Raise vs h k = absurd (cc)
second_of row.Print vs h k = absurd (cc)
second_of (row.Walk a) vs h k = absurd (cc)
second_of (row.HasItem a) vs h k = absurd (cc)
second_of (row.Item a) vs h k = absurd (cc)
second_of (row.Advance a) vs h k = absurd (cc)
second_of row.Turn vs h k = absurd (cc)
second_of (row.Unpack a b) vs h k = absurd (cc)
second_of row.DropNone vs h k = absurd (cc)
second_of row.OnlyNone vs h k = absurd (cc)
second_of row.FalseNone vs h k = absurd (cc)
second_of (row.Lower a) vs h k = absurd (cc)
second_of row.NonNegative vs h k = absurd (cc)
second_of (row.Compare c) vs h k = absurd (cc)

first_of : (o : RowOp) (vs : List Value) → has_key_first o ≡ true → KeyIsWhole o vs → FirstIsWhole vs
first_of (row.Word a) vs h k = absurd (cc)
first_of (row.Str a) vs h k = absurd (cc)
first_of (row.Bool a) vs h k = absurd (cc)
first_of row.None vs h k = absurd (cc)
first_of (row.Constant a) vs h k = absurd (cc)
first_of row.Copy vs h k = absurd (cc)
first_of (row.Unary a) vs h k = absurd (cc)
first_of (row.Binary a b) vs h k = absurd (cc)
first_of row.AddTo vs h k = absurd (cc)
first_of row.CheckedNeg vs h k = absurd (cc)
first_of (row.Checked a) vs h k = absurd (cc)
first_of row.Not vs h k = absurd (cc)
first_of row.Truth vs h k = absurd (cc)
first_of row.Intmask vs h k = absurd (cc)
first_of row.Min vs h k = absurd (cc)
first_of row.Max vs h k = absurd (cc)
first_of row.Len vs h k = absurd (cc)
first_of row.Ord vs h k = absurd (cc)
first_of row.Chr vs h k = absurd (cc)
first_of row.ToStr vs h k = absurd (cc)
first_of row.ToInt vs h k = absurd (cc)
first_of row.Write vs h k = absurd (cc)
first_of (row.IsInstance a) vs h k = absurd (cc)
first_of (row.Index a) vs h k = absurd (cc)
first_of row.StoreIndex vs h k = absurd (cc)
first_of row.DeleteIndex vs h k = absurd (cc)
first_of (row.Attr a) vs h k = absurd (cc)
first_of (row.StoreAttr a) vs h k = absurd (cc)
first_of (row.Slice a b c) vs h k = absurd (cc)
first_of (row.AllButLast a) vs h k = absurd (cc)
first_of row.Tuple vs h k = absurd (cc)
first_of (row.List a) vs h k = absurd (cc)
first_of (row.Dict a) vs h k = absurd (cc)
first_of (row.Comprehension a) vs h k = absurd (cc)
first_of row.AddItem vs h k = absurd (cc)
first_of (row.Call a) vs h k = absurd (cc)
first_of (row.CallOf a b) vs h k = absurd (cc)
first_of row.CallValue vs h k = absurd (cc)
first_of (row.New a) vs h k = absurd (cc)
first_of (row.Method a b) vs h k = absurd (cc)
first_of row.Raise vs h k = absurd (cc)
first_of row.Print vs h k = absurd (cc)
first_of (row.Walk a) vs h k = absurd (cc)
first_of (row.HasItem a) vs h k = absurd (cc)
first_of (row.Item a) vs h k = absurd (cc)
first_of (row.Advance a) vs h k = absurd (cc)
first_of row.Turn vs h k = absurd (cc)
first_of (row.Unpack a b) vs h k = absurd (cc)
first_of row.DropNone vs h k = absurd (cc)
first_of row.OnlyNone vs h k = absurd (cc)
first_of row.FalseNone vs h k = absurd (cc)
first_of (row.Lower a) vs h k = absurd (cc)
first_of row.NonNegative vs h k = absurd (cc)
first_of (row.Compare cmp.Lt) vs h k = absurd (cc)
first_of (row.Compare cmp.Le) vs h k = absurd (cc)
first_of (row.Compare cmp.Gt) vs h k = absurd (cc)
first_of (row.Compare cmp.Ge) vs h k = absurd (cc)
first_of (row.Compare cmp.Eq) vs h k = absurd (cc)
first_of (row.Compare cmp.Ne) vs h k = absurd (cc)
first_of (row.Compare cmp.Is) vs h k = absurd (cc)
first_of (row.Compare cmp.IsNot) vs h k = absurd (cc)
first_of (row.Compare cmp.Within) vs h k = k
first_of (row.Compare cmp.NotWithin) vs h k = k

one_there : (w : World) (vs : List Value) → OfFirst (λ v. v ≢ Nothing) vs → lists.IsThere w vs
one_there w [] h = tt
one_there w (v ∷ []) h = h
one_there w (v ∷ u ∷ vs) h = tt

one_missing : (w : World) (vs : List Value) → OfFirst (λ v. v ≡ Nothing) vs → lists.IsMissing w vs
one_missing w [] h = tt
one_missing w (v ∷ []) h = h
one_missing w (v ∷ u ∷ vs) h = tt

instance_there : (w : World) (vs : List Value) → OfFirst (λ v. v ≢ Nothing) vs → classes.IsThere w vs
instance_there w [] h = tt
instance_there w (v ∷ []) h = h
instance_there w (v ∷ u ∷ vs) h = tt

instance_missing : (w : World) (vs : List Value) → OfFirst (λ v. v ≡ Nothing) vs → classes.IsNothing w vs
instance_missing w [] h = tt
instance_missing w (v ∷ []) h = h
instance_missing w (v ∷ u ∷ vs) h = tt

-- what is known of an instance is one, or `None`
truth_of_instance : (w : World) (r : ℕ) (c : ℕ) (attributes : List (List ℕ × Value)) → slice_get w.heap r ≡ Some (Instance c attributes) → truth_in w (Ref r) ≡ Some false → ⊥
truth_of_instance w r c attributes is e = absurd (cc)

not_plain : (c : ℕ) (b : Bool) → is_plain (kind_seen (Some (element.Instance c b))) ≡ true → ⊥
not_plain c true h = absurd (cc)
not_plain c false h = absurd (cc)

not_nothing : (c : ℕ) (b : Bool) → kind_seen (Some (element.Instance c b)) ≡ kind.Nothing → ⊥
not_nothing c true h = absurd (cc)
not_nothing c false h = absurd (cc)

no_list : (c : ℕ) (b : Bool) → of_list (kind_seen (Some (element.Instance c b))) ≡ true → ⊥
no_list c true h = absurd (cc)
no_list c false h = absurd (cc)

no_dict : (c : ℕ) (b : Bool) → of_dict (kind_seen (Some (element.Instance c b))) ≡ true → ⊥
no_dict c true h = absurd (cc)
no_dict c false h = absurd (cc)

module _ (s : Setting) (g : Ghost) (core : Core) (w : World) (memory : Represents s.around.layout s.known g w.heap w.left core.blocks core.statics) (class : ℕ) (or_none : Bool) where
  false_is_nothing : (x : Low) (v : Value) → Holds s.around.layout s.known g (Some (element.Instance class or_none)) x v → truth_in w v ≡ Some false → v ≡ Nothing
  false_is_nothing x v (Made c n o i is ref below home) e = absurd (let it = memory.instances o i x home in truth_of_instance w i o it.attributes it.object (ap (truth_in w) (sym ref) ∙ e))
  false_is_nothing x v (Missing may is gone) e = gone
  false_is_nothing x v (Plain is it) e = absurd (not_plain class or_none is)
  false_is_nothing x v (Alone is a b) e = absurd (not_nothing class or_none is)
  false_is_nothing x v (Items parts n xs vs is a b c d) e = absurd (cc)
  false_is_nothing x v (AsList n i is a b c d) e = absurd (no_list class or_none is)
  false_is_nothing x v (AsDict n i m is a b c d) e = absurd (no_dict class or_none is)
  false_is_nothing x v (Function fs n f k is a b c d) e = absurd (cc)

module _ (s : Setting) (l : Lowered) (o : Op) where
  told : (w : World) (vs : List Value) (r : RowOp) → o.op ≡ r → IsGood s.known.program s.made (is_keyed s l.number o) o.op w vs → IsTold s.known.program r w vs
  told w vs r is good = subst (λ x. IsTold s.known.program x w vs) is good.told

  second : (w : World) (vs : List Value) → has_key_second o.op ≡ true → is_keyed s l.number o ≡ true → IsGood s.known.program s.made (is_keyed s l.number o) o.op w vs → SecondIsWhole vs
  second w vs plain keyed good = second_of o.op vs plain (good.key keyed)

  below_class : (d : ℕ) (object : Option Object) → InstanceIsBelow s.known.program d object → classes.IsOfClass s.known d object
  below_class d None h = absurd h
  below_class d (Some (Listed items)) h = absurd h
  below_class d (Some (Mapped pairs)) h = absurd h
  below_class d (Some (Instance c attributes)) h = h

  one_of_class : (d : ℕ) (w : World) (v : Value) → IsOfClass s.known.program d w v → classes.AreOfClass s.known d w (v ∷ [])
  one_of_class d w (Ref i) h = below_class d (slice_get w.heap i) h
  one_of_class d w (Word z) h = absurd h
  one_of_class d w (Flag b) h = absurd h
  one_of_class d w (Text bytes) h = absurd h
  one_of_class d w Nothing h = absurd h
  one_of_class d w (Tuple parts) h = absurd h
  one_of_class d w (Fun f) h = absurd h

  module _ (v : ℕ) (one : o.args ≡ v ∷ []) (g : Ghost) (core : Core) where
    given_one : (vs : List Value) → Given s.known s.around g core (args_of l o) vs → Given s.known s.around g core (operand_of l v ∷ []) vs
    given_one vs given = subst (λ args. Given s.known s.around g core (map (operand_of l) args) vs) one given

    of_class : (d : ℕ) (w : World) (vs : List Value) → OfFirst (IsOfClass s.known.program d w) vs → Given s.known s.around g core (operand_of l v ∷ []) vs → classes.AreOfClass s.known d w vs
    of_class d w [] h given = absurd given
    of_class d w (x ∷ []) h given = one_of_class d w x h
    of_class d w (x ∷ y ∷ vs) h given = absurd given.1

    is_false : (class : ℕ) (r : Bool) (w : World) → Represents s.around.layout s.known g w.heap w.left core.blocks core.statics → element_at l.known.annotation l.number v ≡ Some (element.Instance class r) → (vs : List Value) → OfFirst (λ x. truth_in w x ≡ Some false) vs
        → Given s.known s.around g core (operand_of l v ∷ []) vs → classes.IsNothing w vs
    is_false class r w memory element [] h given = absurd given
    is_false class r w memory element (x ∷ []) h given = false_is_nothing s g core w memory class r (operand core.vars (operand_of l v).x) x (subst (λ e. Holds s.around.layout s.known g e (operand core.vars (operand_of l v).x) x) element given.0) h
    is_false class r w memory element (x ∷ y ∷ vs) h given = absurd given.1

  pub all_hold : ConditionsHoldOf s l o
  all_hold = record {
    first_keys = λ m one keyed g core w vs memory given good. first_key m w vs (first_of o.op vs one (good.key keyed));
    second_keys = λ m plain keyed g core w vs memory given good. second_key m w vs (second w vs plain keyed good);
    stores = λ m plain keyed g core w vs memory given good. (second_there w good.keys m vs (second w vs plain keyed good), few_entries w good.room vs);
    deletions = λ m plain keyed g core w vs memory given good. second_there w good.keys m vs (second w vs plain keyed good);
    lists_there = λ is g core w vs memory given good. one_there w vs (told w vs row.DropNone is good);
    lists_missing = λ is g core w vs memory given good. one_missing w vs (told w vs row.OnlyNone is good);
    instances_there = λ is g core w vs memory given good. instance_there w vs (told w vs row.DropNone is good);
    instances_missing = λ is g core w vs memory given good. instance_missing w vs (told w vs row.OnlyNone is good);
    instances_false = λ v class r is one element g core w vs memory given good. is_false v one g core class r w memory element vs (told w vs row.FalseNone is good) (given_one v one g core vs given);
    classed = λ d v is one g core w vs memory given good. of_class v one g core d w vs (told w vs (row.Lower d) is good) (given_one v one g core vs given);
  }

pub conditions_hold : ConditionsHold
conditions_hold s l o = all_hold s l o
