-- An operation reads of a program its classes and its sites alone.
use Rattle.std.proofs.Common.{◌≡◌, ℕ, List, [], ◌∷◌, Option, Some, None, refl}
use Rattle.std.specs.Prelude.{◌++◌, length, nat_lt, codes, if◌then◌else◌}
use Rattle.rpy_tree.specs.Value.{Value, Word, Flag, Text, Nothing, Tuple, Fun, Ref, Object, Listed, Mapped, Instance}
use Rattle.rpy_meaning.specs.declared.row.Covers.{Covers}
use Rattle.rpy_meaning.specs.declared.row.RowOp.{RowOp}
use Rattle.rpy_meaning.specs.declared.row.RowOp.TheVariants as row
use Rattle.rpy_meaning.specs.Tree.{Program}
use Rattle.rpy_meaning.specs.World.{give, at_object, paying}
use Rattle.rpy_meaning.specs.Classes.{method_of, first_attributes}
use Rattle.rpy_meaning.specs.Costs.{instance_cost}
use Rattle.rpy_meaning.specs.Operations.{op, with_one, with_two, builtin_classes, read_attribute, attribute, set_attribute, store_attribute, is_instance_object, is_instance, raise_object, raise, initialised, new_instance, new, call_value, object_method, method}
use Rattle.resolved_laws.specs.Uncopied.{uncopied}

module _ (p : Program) (c : Covers) where
  read_same : (name : List ℕ) (o : Option Object) → read_attribute (uncopied p) c name o ≡ read_attribute p c name o
  read_same name None = refl
  read_same name (Some (Listed vs)) = refl
  read_same name (Some (Mapped ps)) = refl
  read_same name (Some (Instance d attributes)) = refl

  attribute_same : (name : List ℕ) (v : Value) → attribute (uncopied p) c name v ≡ attribute p c name v
  attribute_same name (Word z) = refl
  attribute_same name (Flag b) = refl
  attribute_same name (Text text) = refl
  attribute_same name Nothing = refl
  attribute_same name (Tuple vs) = refl
  attribute_same name (Fun f) = refl
  attribute_same name (Ref r) = λ i. at_object r (λ o. read_same name o i)

  set_same : (name : List ℕ) (r : ℕ) (v : Value) (o : Option Object) → set_attribute (uncopied p) c name r v o ≡ set_attribute p c name r v o
  set_same name r v None = refl
  set_same name r v (Some (Listed vs)) = refl
  set_same name r v (Some (Mapped ps)) = refl
  set_same name r v (Some (Instance d attributes)) = refl

  store_same : (name : List ℕ) (x v : Value) → store_attribute (uncopied p) c name x v ≡ store_attribute p c name x v
  store_same name (Word z) v = refl
  store_same name (Flag b) v = refl
  store_same name (Text text) v = refl
  store_same name Nothing v = refl
  store_same name (Tuple vs) v = refl
  store_same name (Fun f) v = refl
  store_same name (Ref r) v = λ i. at_object r (λ o. set_same name r v o i)

  instance_same : (d : ℕ) (o : Option Object) → is_instance_object (uncopied p) c d o ≡ is_instance_object p c d o
  instance_same d None = refl
  instance_same d (Some (Listed vs)) = refl
  instance_same d (Some (Mapped ps)) = refl
  instance_same d (Some (Instance e attributes)) = refl

  is_same : (d : ℕ) (v : Value) → is_instance (uncopied p) c d v ≡ is_instance p c d v
  is_same d (Word z) = refl
  is_same d (Flag b) = refl
  is_same d (Text text) = refl
  is_same d Nothing = refl
  is_same d (Tuple vs) = refl
  is_same d (Fun f) = refl
  is_same d (Ref r) = λ i. at_object r (λ o. instance_same d o i)

  raised_same : (r : ℕ) (o : Option Object) → raise_object (uncopied p) c r o ≡ raise_object p c r o
  raised_same r None = refl
  raised_same r (Some (Listed vs)) = refl
  raised_same r (Some (Mapped ps)) = refl
  raised_same r (Some (Instance e attributes)) = refl

  raise_same : (v : Value) → raise (uncopied p) c v ≡ raise p c v
  raise_same (Word z) = refl
  raise_same (Flag b) = refl
  raise_same (Text text) = refl
  raise_same Nothing = refl
  raise_same (Tuple vs) = refl
  raise_same (Fun f) = refl
  raise_same (Ref r) = λ i. at_object r (λ o. raised_same r o i)

  initialised_same : (init : Option ℕ) (v : Value) (args : List Value) → initialised (uncopied p) c init v args ≡ initialised p c init v args
  initialised_same None v args = refl
  initialised_same (Some init) v args = refl

  instanced_same : (d : ℕ) (args : List Value) → new_instance (uncopied p) c d args ≡ new_instance p c d args
  instanced_same d args = λ i w.
      initialised_same (method_of p.classes d (codes "__init__")) (Ref (length w.heap)) args i
      (record w { heap = w.heap ++ Instance d (first_attributes p.classes d) ∷ [] })

  new_same : (d : ℕ) (args : List Value) → new (uncopied p) c d args ≡ new p c d args
  new_same d args = λ i. if nat_lt d builtin_classes then give (Ref d) else paying instance_cost (instanced_same d args i)

  call_same : (vs : List Value) → call_value (uncopied p) c vs ≡ call_value p c vs
  call_same [] = refl
  call_same (Word z ∷ vs) = refl
  call_same (Flag b ∷ vs) = refl
  call_same (Text text ∷ vs) = refl
  call_same (Nothing ∷ vs) = refl
  call_same (Tuple us ∷ vs) = refl
  call_same (Fun f ∷ vs) = refl
  call_same (Ref r ∷ vs) = refl

  object_same : (name : List ℕ) (r : ℕ) (args : List Value) (o : Option Object) → object_method (uncopied p) c name r args o ≡ object_method p c name r args o
  object_same name r args None = refl
  object_same name r args (Some (Listed vs)) = refl
  object_same name r args (Some (Mapped ps)) = refl
  object_same name r args (Some (Instance e attributes)) = refl

  method_same : (name : List ℕ) (vs : List Value) → method (uncopied p) c name vs ≡ method p c name vs
  method_same name [] = refl
  method_same name (Word z ∷ vs) = refl
  method_same name (Flag b ∷ vs) = refl
  method_same name (Text text ∷ vs) = refl
  method_same name (Nothing ∷ vs) = refl
  method_same name (Tuple us ∷ vs) = refl
  method_same name (Fun f ∷ vs) = refl
  method_same name (Ref r ∷ vs) = λ i. at_object r (λ o. object_same name r vs o i)

  pub op_same : (o : RowOp) (vs : List Value) → op (uncopied p) c o vs ≡ op p c o vs
  op_same (row.Word z) vs = refl
  op_same (row.Str text) vs = refl
  op_same (row.Bool b) vs = refl
  op_same row.None vs = refl
  op_same (row.Constant a) vs = refl
  op_same row.Copy vs = refl
  op_same (row.Unary f) vs = refl
  op_same (row.Binary f site) vs = refl
  op_same row.AddTo vs = refl
  op_same row.CheckedNeg vs = refl
  op_same (row.Checked f) vs = refl
  op_same (row.Compare f) vs = refl
  op_same row.Not vs = refl
  op_same row.Truth vs = refl
  op_same row.Intmask vs = refl
  op_same row.Min vs = refl
  op_same row.Max vs = refl
  op_same row.Len vs = refl
  op_same row.Ord vs = refl
  op_same row.Chr vs = refl
  op_same row.ToStr vs = refl
  op_same row.ToInt vs = refl
  op_same row.Write vs = refl
  op_same (row.IsInstance d) vs = λ i. with_one (λ v. is_same d v i) vs
  op_same (row.Index literal) vs = refl
  op_same row.StoreIndex vs = refl
  op_same row.DeleteIndex vs = refl
  op_same (row.Attr name) vs = λ i. with_one (λ v. attribute_same name v i) vs
  op_same (row.StoreAttr name) vs = λ i. with_two (λ x v. store_same name x v i) vs
  op_same (row.Slice site low high) vs = refl
  op_same (row.AllButLast site) vs = refl
  op_same row.Tuple vs = refl
  op_same (row.List site) vs = refl
  op_same (row.Dict site) vs = refl
  op_same (row.Comprehension site) vs = refl
  op_same row.AddItem vs = refl
  op_same (row.Call f) vs = refl
  op_same (row.CallOf d f) vs = refl
  op_same row.CallValue vs = call_same vs
  op_same (row.New d) vs = new_same d vs
  op_same (row.Method name site) vs = method_same name vs
  op_same row.Raise vs = λ i. with_one (λ v. raise_same v i) vs
  op_same row.Print vs = refl
  op_same (row.Walk site) vs = refl
  op_same (row.HasItem step) vs = refl
  op_same (row.Item step) vs = refl
  op_same (row.Advance step) vs = refl
  op_same row.Turn vs = refl
  op_same (row.Unpack count place) vs = refl
  op_same row.DropNone vs = refl
  op_same row.OnlyNone vs = refl
  op_same row.FalseNone vs = refl
  op_same (row.Lower d) vs = refl
  op_same row.NonNegative vs = refl
