-- Constants are of their elements.
use Rattle.std.proofs.Common.{◌≡◌, ℕ, suc, Bool, true, false, List, [], ◌∷◌, length, Option, Some, refl, sym, subst, arith}
use Rattle.std.specs.Prelude.{◌==◌, nat_le, map, slice_get, if◌then◌else◌}
use Rattle.std.proofs.lemmas.Bool.{eqb-true}
use Rattle.rpy_tree.specs.declared.program.Const.{Const, roll-Const, fold-roll-Const, map-Const, ind-Const}
use Rattle.rpy_tree.specs.declared.program.Const.TheOpen.{Const-F}
use Rattle.rpy_tree.specs.Value.{Value, Flag, Text, Ref, Object, Listed, Mapped}
use Rattle.rpy_meaning.specs.Tree.{Program}
use Rattle.rpy_meaning.specs.Sequences.{parts_of}
use Rattle.rpy_meaning.specs.Operations.{constant, constant_step, object_of}
use Rattle.ann_lattice.specs.Shape.{One, Any, Shape, Truth, Str, Lst, Dct, shapes_of}
use Rattle.ann_lattice.specs.Join.{depth}
use Rattle.ann_lattice.specs.Kind.{given}
use Rattle.ann_lattice.specs.Order as order
use Rattle.ann_lattice.specs.Order.{Below}
use Rattle.ann_lattice.specs.Assign.{Assignment, mark, Need}
use Rattle.ann_lattice.specs.Row as row
use Rattle.ann_lattice.proofs.Ordered.{has_first}
use Rattle.ann_rules.specs.Program.{Whole}
use Rattle.ann_rules.specs.Asks.{loads, loads_step, from_each}
use Rattle.sound_values.specs.Values.{Sort, none, flag, word, text, tuple, list, dict, fun, clash, Each, no_more, and_more}
use Rattle.sound_values.specs.Heaps.{IsOf, PrebuiltAre}
use Rattle.sound_values.proofs.Larger.{larger}
use Rattle.sound_rows.specs.Seen.{Sees, all_true, is_list_there, is_dict_there, is_there, there_step}
use Rattle.sound_rows.specs.Sound.{AllMet}
use Rattle.sound_rows.proofs.Tools.{no}
use Rattle.sound_rows.proofs.Operands.{and_left, and_right}
use Rattle.sound_rows.proofs.Containers.{met_append}

module _ (p : Whole) (a : Assignment) (q : Program) (sees : Sees p q) (sorts : List Sort) (prebuilt : PrebuiltAre p a q.sites sorts) where
  -- a value is of what is above an element, where that is in conflict too
  pub given_goes : (b : Bool) (x y : Shape) (v : Value) → Below p.tables.classes a.same (given b x) y → IsOf p a sorts x v → IsOf p a sorts y v
  given_goes true x y v b h = larger p.tables.classes sees.tree.tree a.same sorts x y v b h
  given_goes false x _ v (order.clash m o r i j) h = clash o r v

  abbrev Good : Bool → List Need → Shape → Value → Type 0
  Good b ns x v = b ≡ true → AllMet p.tables.classes a ns → IsOf p a sorts x v

  abbrev GoodConst : Const → Type 0
  GoodConst c = Good (is_there q.sites c) (loads p c) (row.constant_shape c) (constant q.sites c)

  text_is : (bytes : List ℕ) (b : Bool) → (length bytes == 1) ≡ b → IsOf p a sorts (if b then Str One else Str Any) (Text bytes)
  text_is [] true e = absurd (no e)
  text_is (n ∷ []) true e = text One (n ∷ []) tt
  text_is (n ∷ m ∷ bytes) true e = absurd (not_one (length bytes) e)
    where
      not_one : (k : ℕ) → (suc (suc k) == 1) ≡ true → ⊥
      not_one k e = let same = eqb-true (suc (suc k)) 1 e in omega (arith, same)
  text_is bytes false e = text Any bytes tt

  pub text_value : (bytes : List ℕ) → IsOf p a sorts (row.text (length bytes)) (Text bytes)
  text_value bytes = text_is bytes (length bytes == 1) refl

  pub flag_is : (b : Bool) → IsOf p a sorts (Truth (Some b)) (Flag b)
  flag_is true = flag (Some true) true tt
  flag_is false = flag (Some false) false tt

  list_is : (s : ℕ) (o : Option (Option Object)) → slice_get q.sites s ≡ o → is_list_there o ≡ true → mark a (p.places.loaded s) ≡ true → IsOf p a sorts (Lst s false) (Ref (object_of q.sites s))
  list_is s (Some (Some (Listed vs))) e h m = list s false (object_of q.sites s) s (prebuilt s (Listed vs) e m) refl
  list_is s o e h m = absurd (no h)

  dict_is : (s : ℕ) (o : Option (Option Object)) → slice_get q.sites s ≡ o → is_dict_there o ≡ true → mark a (p.places.loaded s) ≡ true → IsOf p a sorts (Dct s false) (Ref (object_of q.sites s))
  dict_is s (Some (Some (Mapped pairs))) e h m = dict s false (object_of q.sites s) s (prebuilt s (Mapped pairs) e m) refl
  dict_is s o e h m = absurd (no h)

  abbrev consts : List ((c : Const) × GoodConst c) → List Const
  consts ys = map (λ r. r.0) ys

  parts_are : (ys : List ((c : Const) × GoodConst c)) → all_true (map (is_there q.sites) (consts ys)) ≡ true
      → AllMet p.tables.classes a (from_each (λ needs. needs) (map (loads p) (consts ys)))
      → Each p.tables.classes a.same sorts (shapes_of (map row.constant_shape (consts ys))) (parts_of (map (constant q.sites) (consts ys)))
  parts_are [] e m = no_more
  parts_are (y ∷ ys) e m =
      let ms = met_append p.tables.classes a (loads p y.0) (from_each (λ needs. needs) (map (loads p) (consts ys))) m in
      and_more (row.constant_shape y.0) (shapes_of (map row.constant_shape (consts ys))) (constant q.sites y.0) (parts_of (map (constant q.sites) (consts ys)))
      (y.1 (and_left (is_there q.sites y.0) (all_true (map (is_there q.sites) (consts ys))) e) ms.0)
      (parts_are ys (and_right (is_there q.sites y.0) (all_true (map (is_there q.sites) (consts ys))) e) ms.1)

  layer_is : (y : Const-F ((c : Const) × GoodConst c))
      → Good (there_step q.sites (map-Const Const Bool (is_there q.sites) (map-Const ((c : Const) × GoodConst c) Const (λ r. r.0) y)))
      (loads_step p (map-Const Const (List Need) (loads p) (map-Const ((c : Const) × GoodConst c) Const (λ r. r.0) y)))
      (row.constant_step (map-Const Const Shape row.constant_shape (map-Const ((c : Const) × GoodConst c) Const (λ r. r.0) y)))
      (constant_step q.sites (map-Const Const Value (constant q.sites) (map-Const ((c : Const) × GoodConst c) Const (λ r. r.0) y)))
  layer_is (Const-F.Word z) e m = word _ z
  layer_is (Const-F.Bool b) e m = flag_is b
  layer_is (Const-F.Str bytes) e m = text_value bytes
  layer_is Const-F.None e m = none
  layer_is (Const-F.Function f) e m = fun (f ∷ []) false f (has_first f [])
  layer_is (Const-F.Tuple ys) e m = tuple (shapes_of (map row.constant_shape (consts ys))) (parts_of (map (constant q.sites) (consts ys))) (parts_are ys e m)
  layer_is (Const-F.List s) e m = list_is s (slice_get q.sites s) refl e m.0
  layer_is (Const-F.Dict s) e m = dict_is s (slice_get q.sites s) refl e m.0

  constant_is : (c : Const) → GoodConst c
  constant_is = ind-Const GoodConst (λ x y is.
      subst (λ b. Good b (loads p (roll-Const x)) (row.constant_shape (roll-Const x)) (constant q.sites (roll-Const x))) (sym (fold-roll-Const Bool (there_step q.sites) x))
      (subst (λ ns. Good (there_step q.sites (map-Const Const Bool (is_there q.sites) x)) ns (row.constant_shape (roll-Const x)) (constant q.sites (roll-Const x))) (sym (fold-roll-Const (List Need) (loads_step p) x))
      (subst (λ z. Good (there_step q.sites (map-Const Const Bool (is_there q.sites) x)) (loads_step p (map-Const Const (List Need) (loads p) x)) z (constant q.sites (roll-Const x))) (sym (fold-roll-Const Shape row.constant_step x))
      (subst (λ v. Good (there_step q.sites (map-Const Const Bool (is_there q.sites) x)) (loads_step p (map-Const Const (List Need) (loads p) x)) (row.constant_step (map-Const Const Shape row.constant_shape x)) v)
      (sym (fold-roll-Const Value (constant_step q.sites) x))
      (subst (λ z. Good (there_step q.sites (map-Const Const Bool (is_there q.sites) z)) (loads_step p (map-Const Const (List Need) (loads p) z)) (row.constant_step (map-Const Const Shape row.constant_shape z)) (constant_step q.sites (map-Const Const Value (constant q.sites) z))) is
      (layer_is y))))))

  -- a constant that is asked to be below a cell is of what stands there
  pub constant_goes : (c : Const) (y : Shape) → is_there q.sites c ≡ true → AllMet p.tables.classes a (loads p c) → Below p.tables.classes a.same (row.constant c) y → IsOf p a sorts y (constant q.sites c)
  constant_goes c y e m b = given_goes (nat_le (depth (row.constant_shape c)) 8) (row.constant_shape c) y (constant q.sites c) b (constant_is c e m)
