-- Operations on instances and function values are tidy.
use Rattle.std.proofs.Common.{◌≡◌, ℕ, Bool, true, false, List, [], ◌∷◌, Option, Some, None, refl, sym, subst, ◌∙◌}
use Rattle.std.specs.Prelude.{if◌then◌else◌, ◌≢◌}
use Rattle.ll_code.specs.declared.program.LlType.TheVariants as type
use Rattle.ann_element.specs.declared.element.Element.{Element}
use Rattle.ann_element.specs.declared.element.Element.TheVariants as element
use Rattle.class_desc.specs.Range.{range}
use Rattle.rpy_meaning.specs.declared.row.RowOp.{RowOp}
use Rattle.rpy_meaning.specs.declared.row.RowOp.TheVariants as row
use Rattle.rtyper_layout.specs.declared.classes.Laid.{Laid}
use Rattle.rtyper_layout.specs.declared.layout.Layout.{Layout}
use Rattle.rtyper_layout.specs.Types.{laid_in, root_of, type_seen}
use Rattle.rtyper_data.specs.declared.small.Small.TheVariants as small
use Rattle.rtyper_data.specs.Seen.{Operand, Writing}
use Rattle.rtyper_op.specs.Lowering.{is_never}
use Rattle.rtyper_list.specs.Lowering.{lower_list_op}
use Rattle.rtyper_class.specs.Calls.{reached_by}
use Rattle.rtyper_class.specs.Lowering.{attribute, attribute_of, functions_of, instance_in, instance_of, is_instance, is_instance_by, is_instance_on, lower_class_op, lowered, method_of, method_on, of_one, of_some, of_two, other, raise_on, set_attribute, set_attribute_of, value_call, value_call_of}
use Rattle.rtyper_class.specs.Seen.{laid}
use Rattle.object_laws.proofs.Valued.{instance_type}
use Rattle.reading_laws.specs.Suits.{attribute_suits, class_method_suits, class_one_suits, class_op_suits, class_two_suits, function_suits, is_instance_suits, is_some, lower_class_suits, lower_list_suits, method_on_suits, reached_suits, some_class_suits, value_call_suits}
use Rattle.reading_laws.specs.Tidy.{AreThere, IsSet, IsThere, Setup, Stands, Tidy, taken}
use Rattle.reading_laws.proofs.Steps.{all_given, if_taken, nothing}
use Rattle.reading_laws.proofs.Values.{by_small_tidy, give_made_tidy}
use Rattle.reading_laws.proofs.Calls.{call_tidy}
use Rattle.reading_laws.proofs.Operating.{failure_tidy}
use Rattle.reading_laws.proofs.Lists.{lower_list_op_tidy, never_list_tidy}
use Rattle.reading_laws.proofs.Instances.{call_value_tidy, method_tidy, new_tidy, raise_tidy, read_tidy, store_tidy}

-- an instance that has a type is of a class that has structs
root_there : (l : Option Laid) → root_of l ≢ type.Void → is_some l ≡ true
root_there None h = absurd (h refl)
root_there (Some l) h = refl

instance_there : (layout : Layout) (e : Option Element) (i : ℕ × Bool) → instance_in e ≡ Some i → type_seen layout e ≢ type.Void → is_some (laid_in layout.classes i.0) ≡ true
instance_there layout None i q h = absurd (cc)
instance_there layout (Some (element.Instance class r)) i q h =
    let same : class ≡ i.0 = (let p : (class, r) ≡ i = cc in subst (λ (j : ℕ × Bool). class ≡ j.0) p refl) in
    subst (λ (n : ℕ). is_some (laid_in layout.classes n) ≡ true) same (root_there (laid_in layout.classes class) (λ e. h (instance_type layout class r ∙ e)))
instance_there layout (Some e) i q h = absurd (cc)

laid_there : {f : Setup} {s : List ℕ} (a : Operand) (i : ℕ × Bool) → instance_of a ≡ Some i → IsThere f a s → is_some (laid f.world i.0) ≡ true
laid_there {f} a i q h = instance_there f.world.around.layout a.element i q h.typed

module _ {f : Setup} (c : Stands f) where
  is_instance_by_tidy : {s : List ℕ} (r : ℕ × ℕ) (a : Operand) (l : Option Laid) (w : Writing) → IsSet a.x s → Tidy f s (taken (is_some l) f) w (is_instance_by f.world f.place r a l w)
  is_instance_by_tidy r a None w h = nothing
  is_instance_by_tidy r a (Some l) w h = give_made_tidy c type.Bool w _ (by_small_tidy c (small.IsInstance l.root l.vtable r.0 r.1) type.Bool (a.x ∷ []) w tt (h, tt))

  is_instance_tidy : {s : List ℕ} (of : ℕ) (a : Operand) (class : ℕ) (w : Writing) → IsSet a.x s → Tidy f s (taken (is_some (laid f.world class)) f) w (is_instance f.world f.place of a class w)
  unfolding is_instance
  is_instance_tidy of a class w h = is_instance_by_tidy (range f.world.classes.classes of) a (laid f.world class) w h

  attribute_of_tidy : {s : List ℕ} (name : List ℕ) (a : Operand) (i : Option (ℕ × Bool)) (w : Writing) → IsThere f a s → Tidy f s (taken (attribute_suits f.world name i) f) w (attribute_of f.world f.place name a i w)
  attribute_of_tidy name a None w h = failure_tidy c w
  attribute_of_tidy name a (Some i) w h = read_tidy c name a i.0 i.1 w h

  attribute_tidy : {s : List ℕ} (name : List ℕ) (a : Operand) (w : Writing) → IsThere f a s → Tidy f s (taken (attribute_suits f.world name (instance_of a)) f) w (attribute f.world f.place name a w)
  unfolding attribute
  attribute_tidy name a w h = attribute_of_tidy name a (instance_of a) w h

  set_attribute_of_tidy : {s : List ℕ} (name : List ℕ) (a b : Operand) (i : Option (ℕ × Bool)) (w : Writing) → IsThere f a s → IsSet b.x s → Tidy f s (taken (attribute_suits f.world name i) f) w (set_attribute_of f.world f.place name a b i w)
  set_attribute_of_tidy name a b None w h j = failure_tidy c w
  set_attribute_of_tidy name a b (Some i) w h j = store_tidy c name a b i.0 i.1 w h j

  set_attribute_tidy : {s : List ℕ} (name : List ℕ) (a b : Operand) (w : Writing) → IsThere f a s → IsSet b.x s → Tidy f s (taken (attribute_suits f.world name (instance_of a)) f) w (set_attribute f.world f.place name a b w)
  unfolding set_attribute
  set_attribute_tidy name a b w h j = set_attribute_of_tidy name a b (instance_of a) w h j

  value_call_of_tidy : {s : List ℕ} (a : Operand) (fs : Option (List ℕ × Bool)) (args : List Operand) (w : Writing) → IsThere f a s → AreThere f args s → Tidy f s (taken (function_suits fs) f) w (value_call_of f.world f.place a fs args w)
  value_call_of_tidy a None args w h j = failure_tidy c w
  value_call_of_tidy {s} a (Some fs) args w h j = call_value_tidy c a fs.0 fs.1 args w h (all_given f s args j)

  value_call_tidy : {s : List ℕ} (args : List Operand) (w : Writing) → AreThere f args s → Tidy f s (taken (value_call_suits args) f) w (value_call f.world f.place args w)
  unfolding value_call
  value_call_tidy [] w h = nothing
  value_call_tidy (a ∷ args) w h = value_call_of_tidy a (functions_of a) args w h.0 h.1

  raise_on_tidy : {s : List ℕ} (a : Operand) (i : Option (ℕ × Bool)) (w : Writing) → IsThere f a s → Tidy f s (taken true f) w (raise_on f.world f.place a i w)
  raise_on_tidy a None w h = failure_tidy c w
  raise_on_tidy a (Some i) w h = raise_tidy c a i.1 w h

  -- ---- what is no instance is lowered as on lists

  method_on_tidy : {s : List ℕ} (o : RowOp) (name : List ℕ) (a : Operand) (args : List Operand) (i : Option (ℕ × Bool)) (w : Writing) → instance_of a ≡ i → AreThere f (a ∷ args) s
      → Tidy f s (taken (method_on_suits f.world o f.place name (a ∷ args) i) f) w (method_on f.world o f.place name (a ∷ args) i w)
  method_on_tidy o name a args None w e h = lower_list_op_tidy c o (a ∷ args) w h
  method_on_tidy {s} o name a args (Some i) w e h = method_tidy c name i.0 i.1 a args w (laid_there a i e h.0) h.0 (all_given f s args h.1)

  method_of_tidy : {s : List ℕ} (o : RowOp) (name : List ℕ) (args : List Operand) (w : Writing) → AreThere f args s → Tidy f s (taken (class_method_suits f.world o f.place name args) f) w (method_of f.world o f.place name args w)
  unfolding method_of
  method_of_tidy o name [] w h = lower_list_op_tidy c o [] w h
  method_of_tidy o name (a ∷ args) w h = method_on_tidy o name a args (instance_of a) w refl h

  is_instance_on_tidy : {s : List ℕ} (o : RowOp) (of : ℕ) (a : Operand) (i : Option (ℕ × Bool)) (w : Writing) → IsThere f a s → Tidy f s (taken (is_instance_suits f.world o f.place a i) f) w (is_instance_on f.world o f.place of a i w)
  is_instance_on_tidy o of a None w h = lower_list_op_tidy c o (a ∷ []) w (h, tt)
  is_instance_on_tidy o of a (Some i) w h = is_instance_tidy of a i.0 w h.inside

  of_one_tidy : {s : List ℕ} (o : RowOp) (a : Operand) (w : Writing) → IsThere f a s → Tidy f s (taken (class_one_suits f.world o f.place a) f) w (of_one f.world o f.place a w)
  unfolding of_one
  of_one_tidy (row.Attr name) a w h = attribute_tidy name a w h
  of_one_tidy (row.IsInstance of) a w h = is_instance_on_tidy (row.IsInstance of) of a (instance_of a) w h
  of_one_tidy row.Raise a w h = raise_on_tidy a (instance_of a) w h
  of_one_tidy o a w h = lower_list_op_tidy c o (a ∷ []) w (h, tt)

  of_two_tidy : {s : List ℕ} (o : RowOp) (a b : Operand) (w : Writing) → AreThere f (a ∷ b ∷ []) s → Tidy f s (taken (class_two_suits f.world o f.place a b) f) w (of_two f.world o f.place a b w)
  unfolding of_two
  of_two_tidy (row.StoreAttr name) a b w h = set_attribute_tidy name a b w h.0 h.1.0.inside
  of_two_tidy o a b w h = lower_list_op_tidy c o (a ∷ b ∷ []) w h

  of_some_tidy : {s : List ℕ} (o : RowOp) (args : List Operand) (w : Writing) → AreThere f args s → Tidy f s (taken (some_class_suits f.world o f.place args) f) w (of_some f.world o f.place args w)
  unfolding of_some other
  of_some_tidy o (a ∷ []) w h = of_one_tidy o a w h.0
  of_some_tidy o (a ∷ b ∷ []) w h = of_two_tidy o a b w h
  of_some_tidy o args w h = lower_list_op_tidy c o args w h

  lowered_tidy : {s : List ℕ} (o : RowOp) (args : List Operand) (w : Writing) → AreThere f args s → Tidy f s (taken (class_op_suits f.world o f.place args) f) w (lowered f.world o f.place args w)
  unfolding lowered
  lowered_tidy {s} (row.New class) args w h = new_tidy c class args w (all_given f s args h)
  lowered_tidy {s} (row.CallOf class g) args w h = call_tidy c g args w (all_given f s args h)
  lowered_tidy row.CallValue args w h = value_call_tidy args w h
  lowered_tidy (row.Method name site) args w h = method_of_tidy (row.Method name site) name args w h
  lowered_tidy o args w h = of_some_tidy o args w h

  -- what never comes is not read
  pub never_class_tidy : {s : List ℕ} (o : RowOp) (args : List Operand) (w : Writing) → is_never args ≡ true → Tidy f s (taken (lower_class_suits f.world o f.place args) f) w (lower_class_op f.world o f.place args w)
  never_class_tidy {s} o args w e = on (is_never args) e
    where
      on : (b : Bool) → b ≡ true → Tidy f s (taken (if b then lower_list_suits f.world.around o f.place args else class_op_suits f.world o f.place args) f) w (if b then lower_list_op f.world.around o f.place args w else lowered f.world o f.place args w)
      on true q = never_list_tidy c o args w e
      on false q = absurd (cc)

  pub lower_class_op_tidy : {s : List ℕ} (o : RowOp) (args : List Operand) (w : Writing) → AreThere f args s → Tidy f s (taken (lower_class_suits f.world o f.place args) f) w (lower_class_op f.world o f.place args w)
  lower_class_op_tidy o args w h = if_taken (is_never args) (lower_list_suits f.world.around o f.place args) (class_op_suits f.world o f.place args) _ _ (lower_list_op_tidy c o args w h) (lowered_tidy o args w h)
