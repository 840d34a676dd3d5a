-- Which members are no classes, and which have none within them.
use Rattle.std.proofs.Common.{◌≡◌, ℕ, true, List, ap, ◌∙◌, refl, sym}
use Rattle.std.specs.List.{list_all}
use Rattle.rpy_tree.specs.declared.syntax.ClassDef.{ClassDef}
use Rattle.rpy_tree.specs.declared.syntax.Expr.{Expr}
use Rattle.rpy_tree.specs.declared.syntax.Function.{Function}
use Rattle.rpy_tree.specs.declared.syntax.Member.{Member, out-Member, out-roll-Member}
use Rattle.rpy_tree.specs.declared.syntax.Member.TheOpen.{Member-F}
use Rattle.rpy_tree.specs.declared.syntax.Member.TheVariants as m
use Rattle.resolver_laws.specs.Listing.{is_no_class, is_flat}

abbrev pub IsNoClass : Member → Type 0
IsNoClass m = is_no_class (out-Member m) ≡ true

abbrev pub IsFlat : Member → Type 0
IsFlat m = is_flat (out-Member m) ≡ true

abbrev pub NoClasses : List Member → Type 0
NoClasses ms = list_all (λ m. is_no_class (out-Member m)) ms ≡ true

abbrev pub AreFlat : List Member → Type 0
AreFlat ms = list_all (λ m. is_flat (out-Member m)) ms ≡ true

pub def_plain : (f : Function) → IsNoClass (m.Def f)
def_plain f = ap (λ m. is_no_class (out-Member m)) (sym (m.rolls-Def f)) ∙ ap is_no_class (out-roll-Member (Member-F.Def f))

pub constant_plain : (node : ℕ) (name : List ℕ) (e : Expr) → IsNoClass (m.Const node name e)
constant_plain node name e = ap (λ m. is_no_class (out-Member m)) (sym (m.rolls-Const node name e)) ∙ ap is_no_class (out-roll-Member (Member-F.Const node name e))

pub import_flat : (node : ℕ) (names : List (List ℕ)) → IsFlat (m.Import node names)
import_flat node names = ap (λ m. is_flat (out-Member m)) (sym (m.rolls-Import node names)) ∙ ap is_flat (out-roll-Member (Member-F.Import node names))

pub from_flat : (node : ℕ) (path names : List (List ℕ)) → IsFlat (m.From node path names)
from_flat node path names = ap (λ m. is_flat (out-Member m)) (sym (m.rolls-From node path names)) ∙ ap is_flat (out-roll-Member (Member-F.From node path names))

pub class_flat : (c : ClassDef) → NoClasses c.members → IsFlat (m.Class c)
class_flat c h = ap (λ m. is_flat (out-Member m)) (sym (m.rolls-Class c)) ∙ ap is_flat (out-roll-Member (Member-F.Class c)) ∙ h

-- what is no class has none within it
no_class_flat : (m : Member-F Member ClassDef) → is_no_class m ≡ true → is_flat m ≡ true
no_class_flat (Member-F.Import k names) h = refl
no_class_flat (Member-F.From k path names) h = refl
no_class_flat (Member-F.Const k name e) h = refl
no_class_flat (Member-F.Def f) h = refl
no_class_flat (Member-F.Class c) h = absurd cc

pub plain_flat : (m : Member) → IsNoClass m → IsFlat m
plain_flat m h = no_class_flat (out-Member m) h
