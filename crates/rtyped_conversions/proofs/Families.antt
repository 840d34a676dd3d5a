-- Classes that are laid out are families.
use Rattle.std.proofs.Common.{◌≡◌, ℕ, true, List, sym, ap, ◌∙◌, subst}
use Rattle.rpy_tree.specs.declared.program.ClassInfo.{ClassInfo}
use Rattle.class_desc.specs.Line.{is_below}
use Rattle.class_desc.specs.Range.{IsForest}
use Rattle.layout_laws.proofs.Lines.{Under, Here, Up, based_within, below_of, is_under}
use Rattle.rtyped_conversions.specs.Families.{ClassesAreFamilies}

-- what is above a class is above those below it
under_both : (classes : List ClassInfo) (d c e : ℕ) → Under classes c e → Under classes d c → Under classes d e
under_both classes d c _ (Here e same) u = subst (λ x. Under classes d x) (sym same) u
under_both classes d c _ (Up e b h v) u = Up e b h (under_both classes d c b v u)

below_both : (classes : List ClassInfo) → IsForest classes → (d c e : ℕ) → Under classes c e → is_below classes c d ≡ true → is_below classes e d ≡ true
below_both classes tree d c _ (Here e same) h = ap (λ x. is_below classes x d) same ∙ h
below_both classes tree d c _ (Up e b h v) k = below_of classes tree d e (based_within classes e b h) (under_both classes d c e (Up e b h v) (is_under classes c d k))

pub classes_are_families : ClassesAreFamilies
classes_are_families world known tree of laid = record {
  within = λ c d h e k. of.below e d ∙ below_both world.classes.classes tree d c e (is_under world.classes.classes e c (sym (of.below e c) ∙ k)) h;
  root = λ c d l m h at there. (laid.inherits c d l m h at there).0;
}
