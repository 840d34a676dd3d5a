-- What is known is of the program.
use Rattle.std.proofs.Common.{◌≡◌, ◌≤◌, ℕ, zero, suc, List, [], ◌∷◌, ◌++◌, length, map, Option, Some, None, refl, ap, ◌∙◌, arith}
use Rattle.std.specs.Prelude.{◌==◌, slice_get, zip}
use Rattle.std.specs.List.{list_any}
use Rattle.rpy_meaning.specs.Tree.{Class}
use Rattle.rpy_meaning.specs.Classes.{base_of, constants_of, line_of, is_below as is_below_meant}
use Rattle.rpy_meaning.specs.Resolved.{Further, builtin_names, class_names_from, class_by, value_in}
use Rattle.rpy_tree.specs.declared.program.ClassInfo.{ClassInfo}
use Rattle.rpy_tree.specs.declared.program.Const.{Const}
use Rattle.rpy_tree.specs.declared.program.Program as tree
use Rattle.class_desc.specs.Line.{base, constants_in, onward, line, is_below}
use Rattle.class_desc.proofs.Exact.{exact}
use Rattle.layout_laws.specs.Knowing.{AreClasses, ClassesAreKnown, ProgramsHaveTheirClasses, vtable_in}
use Rattle.layout_laws.specs.Starting.{ProgramsHaveTheirConstants}

module _ (meant : List Class) (infos : List ClassInfo) (are : AreClasses meant infos) where
  pub same_line : (k : ℕ) (o : Option ℕ) → line_of meant k o ≡ onward (line infos k) o
  same_line zero None = refl
  same_line zero (Some c) = refl
  same_line (suc k) None = refl
  same_line (suc k) (Some c) = ap (λ cs. c ∷ cs) (same_line k (base_of (slice_get meant c)) ∙ ap (onward (line infos k)) (are.bases c))

  same_below : (c d : ℕ) → is_below_meant meant c d ≡ is_below infos c d
  same_below c d = ap (list_any (λ e. e == d)) (same_line (length meant) (Some c) ∙ ap (λ n. line infos n c) are.count)

pub classes_are_known : ClassesAreKnown
classes_are_known world program reached meant items keys static site tree are = record {
  attribute = λ class name. refl;
  vtable = λ class l h. ap (vtable_in world) h;
  number = λ class. refl;
  exception = λ class. refl;
  below = same_below meant.classes world.classes.classes are;
  exact = exact world.classes.classes tree;
}

-- ---- the classes of a program in its meaning

module _ (p : tree.Program) (further : Further) where
  abbrev named_by : List (List ℕ) → List ClassInfo → List Class
  named_by names infos = map (λ (c : List ℕ × ClassInfo). class_by p further c.0 c.1) (zip names infos)

  same_count : (names : List (List ℕ)) (infos : List ClassInfo) → length infos ≤ length names → length (named_by names infos) ≡ length infos
  same_count [] [] le = refl
  same_count [] (i ∷ infos) le = absurd (omega (arith, le))
  same_count (n ∷ names) [] le = refl
  same_count (n ∷ names) (i ∷ infos) le = ap suc (same_count names infos (omega (arith, le)))

  base_same : (names : List (List ℕ)) (infos : List ClassInfo) (c : ℕ) → length infos ≤ length names → base_of (slice_get (named_by names infos) c) ≡ base infos c
  base_same [] [] c le = refl
  base_same [] (i ∷ infos) c le = absurd (omega (arith, le))
  base_same (n ∷ names) [] c le = refl
  base_same (n ∷ names) (i ∷ infos) zero le = refl
  base_same (n ∷ names) (i ∷ infos) (suc c) le = base_same names infos c (omega (arith, le))

  same_constants : (names : List (List ℕ)) (infos : List ClassInfo) (c : ℕ) → length infos ≤ length names
      → constants_of (slice_get (named_by names infos) c) ≡ map (λ (a : List ℕ × Const). (a.0, value_in p further a.1)) (constants_in (slice_get infos c))
  same_constants [] [] c le = refl
  same_constants [] (i ∷ infos) c le = absurd (omega (arith, le))
  same_constants (n ∷ names) [] c le = refl
  same_constants (n ∷ names) (i ∷ infos) zero le = refl
  same_constants (n ∷ names) (i ∷ infos) (suc c) le = same_constants names infos c (omega (arith, le))

pub programs_have_their_constants : ProgramsHaveTheirConstants
programs_have_their_constants p further le c = same_constants p further (builtin_names ++ class_names_from p further p.names p.modules) p.classes c le

pub programs_have_their_classes : ProgramsHaveTheirClasses
programs_have_their_classes p further le =
    let names : List (List ℕ) = builtin_names ++ class_names_from p further p.names p.modules in
    record { count = same_count p further names p.classes le; bases = λ c. base_same p further names p.classes c le }
