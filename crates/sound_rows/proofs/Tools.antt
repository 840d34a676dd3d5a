-- What operations are made of.
use Rattle.std.proofs.Common.{◌≡◌, ◌<◌, ℕ, ◌-◌, Bool, true, false, List, [], ◌∷◌, ◌++◌, length, Option, Some, None, refl, ap, sym, subst, ◌∙◌, arith}
use Rattle.std.specs.Prelude.{nat_lt, slice_get, slice_set, if◌then◌else◌}
use Rattle.rpy_base.specs.declared.outcome.FailName.{FailName}
use Rattle.rpy_tree.specs.declared.program.ClassInfo.{ClassInfo}
use Rattle.rpy_tree.specs.Value.{Value, Flag, Ref, Object, Listed, Heap}
use Rattle.rpy_meaning.specs.Tree.{Program}
use Rattle.rpy_meaning.specs.declared.row.Covers.{Covers}
use Rattle.rpy_meaning.specs.Operations.{builtin_classes}
use Rattle.rpy_meaning.specs.World.{World, Op, Fails, Lacks, give, throw, paying, write, new_object, set_object, at_object, on_list, with_list, new_list, failure, index_error, division_error, value_error, attribute_error}
use Rattle.rpy_meaning.specs.Costs.{list_cost}
use Rattle.ann_lattice.specs.Shape.{Shape, Truth, Lst}
use Rattle.ann_lattice.specs.Join.{is_clash}
use Rattle.ann_lattice.specs.Kind.{misfit, given}
use Rattle.ann_lattice.specs.Order.{Below}
use Rattle.ann_lattice.specs.Order as order
use Rattle.ann_lattice.specs.Assign.{Assignment}
use Rattle.ann_rules.specs.Program.{Whole}
use Rattle.ann_rules.specs.Asks.{items_of}
use Rattle.sound_values.specs.Values.{Sort, ListOf, flag, list}
use Rattle.sound_values.specs.Heaps.{IsOf, AreOf, AllOf, ObjectIs, IsTyped}
use Rattle.sound_values.proofs.Larger.{larger}
use Rattle.sound_values.proofs.Growing.{keeps_more, all_grow}
use Rattle.sound_values.proofs.Objects.{typed_put, typed_behind, last_sort}
use Rattle.sound_rows.specs.Seen.{Sees}
use Rattle.sound_rows.specs.Sound.{Sound}

pub no : false ≡ true → ⊥
no e = cc

pub yes : true ≡ false → ⊥
yes e = cc

-- a program, its assignment, a typed heap and what stands at a result
pub record Setting : Type 0 where
  pub p : Whole
  pub a : Assignment
  pub q : Program
  pub sees : Sees p q
  pub sorts : List Sort
  pub heap : Heap
  pub typed : IsTyped p a q.sites sorts heap
  pub raises : Bool
  pub z : Shape
  pub free : is_clash z ≡ false

-- an operation is sound in worlds with this heap
abbrev pub Sounds : Setting → Op → Type 0
Sounds s o = (w : World) → w.heap ≡ s.heap → Sound s.p s.a s.q s.raises s.sorts s.z (o w)

abbrev pub Has : Setting → Shape → Value → Type 0
Has s x v = IsOf s.p s.a s.sorts x v

abbrev pub Have : Setting → List Shape → List Value → Type 0
Have s xs vs = AreOf s.p s.a s.sorts xs vs

abbrev pub Under : Setting → Shape → Type 0
Under s x = Below s.p.tables.classes s.a.same x s.z

pub raise_to : (s : Setting) (x : Shape) (v : Value) → Under s x → Has s x v → Has s s.z v
raise_to s x v b h = larger s.p.tables.classes s.sees.tree.tree s.a.same s.sorts x s.z v b h

-- ---- rows that fit

pub above_clash : (k : List ClassInfo) (t : List ℕ) (x z : Shape) → Below k t x z → is_clash x ≡ true → is_clash z ≡ false → ⊥
above_clash k t _ _ (order.clash x o p h j) i f = yes f
above_clash k t x z h i f = no i

pub misfits : (s : Setting) → Under s misfit → ⊥
misfits s b = above_clash s.p.tables.classes s.a.same misfit s.z b refl s.free

pub fits : (s : Setting) (b : Bool) (x : Shape) → Under s (given b x) → (b ≡ true) × Under s x
fits s true x h = (refl, h)
fits s false x h = absurd (misfits s h)

-- ---- answers

pub give_ok : (s : Setting) (v : Value) → Has s s.z v → Sounds s (give v)
give_ok s v h w e = record { later = s.sorts; keeps = λ r sort i. i; typed = subst (IsTyped s.p s.a s.q.sites s.sorts) (sym e) s.typed; is = h }

pub give_of : (s : Setting) (x : Shape) (v : Value) → Under s x → Has s x v → Sounds s (give v)
give_of s x v b h = give_ok s v (raise_to s x v b h)

pub write_of : (s : Setting) (x : Shape) (v : Value) (text : List ℕ) → Under s x → Has s x v → Sounds s (write text v)
write_of s x v text b h w e = record { later = s.sorts; keeps = λ r sort i. i; typed = subst (IsTyped s.p s.a s.q.sites s.sorts) (sym e) s.typed; is = raise_to s x v b h }

pub truth_of : (s : Setting) (b : Bool) → Under s (Truth None) → Sounds s (give (Flag b))
truth_of s b under = give_of s (Truth None) (Flag b) under (any_flag b)
  where
    any_flag : (b : Bool) → Has s (Truth None) (Flag b)
    any_flag true = flag None true tt
    any_flag false = flag None false tt

pub throw_ok : (s : Setting) (c : ℕ) → c < builtin_classes → Sounds s (throw c)
throw_ok s c lt w e = record {
  later = s.sorts;
  keeps = λ r sort i. i;
  typed = subst (IsTyped s.p s.a s.q.sites s.sorts) (sym e) s.typed;
  class = c;
  sort = s.typed.builtin c lt;
  exception = s.sees.exceptions c lt;
  builtin = λ _. lt;
}

pub fail_ok : (s : Setting) (name : FailName) → Sounds s (λ w. Fails name)
fail_ok s name w e = tt

pub failure_ok : (s : Setting) (b : Bool) (c : ℕ) (name : FailName) → c < builtin_classes → Sounds s (failure b c name)
failure_ok s true c name lt = throw_ok s c lt
failure_ok s false c name lt = fail_ok s name

pub index_ok : (s : Setting) (c : Covers) → Sounds s (index_error c)
index_ok s c = failure_ok s c.index 6 _ (omega arith)

pub division_ok : (s : Setting) (c : Covers) → Sounds s (division_error c)
division_ok s c = failure_ok s c.zero 4 _ (omega arith)

pub value_ok : (s : Setting) (c : Covers) → Sounds s (value_error c)
value_ok s c = failure_ok s c.number 8 _ (omega arith)

pub none_ok : (s : Setting) (c : Covers) → Sounds s (attribute_error c)
none_ok s c = failure_ok s c.attribute 9 _ (omega arith)

pub if_ok : (s : Setting) (b : Bool) (f g : Op) → Sounds s f → Sounds s g → Sounds s (if b then f else g)
if_ok s true f g h i = h
if_ok s false f g h i = i

pub paying_ok : (s : Setting) (cost : ℕ) (go : Op) → Sounds s go → Sounds s (paying cost go)
paying_ok s cost go h w e = paid (nat_lt w.left cost)
  where
    paid : (b : Bool) → Sound s.p s.a s.q s.raises s.sorts s.z (if b then Lacks else go (record w { left = w.left - cost }))
    paid true = tt
    paid false = h (record w { left = w.left - cost }) e

pub at_object_ok : (s : Setting) (r : ℕ) (o : Object) (f : Option Object → Op) → slice_get s.heap r ≡ Some o → Sounds s (f (Some o)) → Sounds s (at_object r f)
at_object_ok s r o f there h w e = subst (λ x. Sound s.p s.a s.q s.raises s.sorts s.z (f x w)) (sym (ap (λ heap. slice_get heap r) e ∙ there)) (h w e)

pub with_list_ok : (s : Setting) (r : ℕ) (vs : List Value) (f : List Value → Op) → slice_get s.heap r ≡ Some (Listed vs) → Sounds s (f vs) → Sounds s (with_list r f)
with_list_ok s r vs f there h = at_object_ok s r (Listed vs) (on_list f) there h

pub set_object_ok : (s : Setting) (r : ℕ) (sort : Sort) (o : Object) (v : Value) → slice_get s.sorts r ≡ Some sort → ObjectIs s.p s.a s.sorts sort o → Has s s.z v → Sounds s (set_object r o v)
set_object_ok s r sort o v is i h w e = record {
  later = s.sorts;
  keeps = λ r sort i. i;
  typed = subst (λ heap. IsTyped s.p s.a s.q.sites s.sorts (slice_set heap r o)) (sym e) (typed_put s.p s.a s.q.sites s.sorts s.heap r sort o s.typed is i);
  is = h;
}

-- the sorts where an object of this sort is made
abbrev pub with_sort : Setting → Sort → List Sort
with_sort s sort = s.sorts ++ sort ∷ []

pub larger_later : (s : Setting) (sorts : List Sort) (x : Shape) (v : Value) → Under s x → IsOf s.p s.a sorts x v → IsOf s.p s.a sorts s.z v
larger_later s sorts x v b h = larger s.p.tables.classes s.sees.tree.tree s.a.same sorts x s.z v b h

pub new_object_ok : (s : Setting) (sort : Sort) (o : Object) (x : Shape) → ObjectIs s.p s.a (with_sort s sort) sort o → Under s x
    → ((r : ℕ) → slice_get (with_sort s sort) r ≡ Some sort → IsOf s.p s.a (with_sort s sort) x (Ref r)) → Sounds s (new_object o)
new_object_ok s sort o x i b h w e = record {
  later = with_sort s sort;
  keeps = keeps_more s.sorts (sort ∷ []);
  typed = subst (λ heap. IsTyped s.p s.a s.q.sites (with_sort s sort) (heap ++ o ∷ [])) (sym e) (typed_behind s.p s.a s.q.sites s.sorts s.heap sort o s.typed i);
  is =
      subst (λ heap. IsOf s.p s.a (with_sort s sort) s.z (Ref (length heap))) (sym e)
      (larger_later s (with_sort s sort) x (Ref (length s.heap)) b (h (length s.heap) (last_sort s.p s.a s.sorts s.sorts s.heap sort s.typed.objects)));
}

-- ---- lists

-- a list of a site whose items are of what stands there
pub listed_ok : (s : Setting) (site : ℕ) (vs : List Value) → AllOf s.p s.a s.sorts (items_of s.p s.a site) vs → Under s (Lst site false) → Sounds s (new_object (Listed vs))
listed_ok s site vs h b =
    new_object_ok s (ListOf site) (Listed vs) (Lst site false) (all_grow s.p s.a s.sorts (with_sort s (ListOf site)) (keeps_more s.sorts (ListOf site ∷ [])) (items_of s.p s.a site) vs h) b
    (λ r e. list site false r site e refl)

pub new_list_ok : (s : Setting) (site : ℕ) (vs : List Value) → AllOf s.p s.a s.sorts (items_of s.p s.a site) vs → Under s (Lst site false) → Sounds s (new_list vs)
new_list_ok s site vs h b = paying_ok s (list_cost (length vs)) (new_object (Listed vs)) (listed_ok s site vs h b)
