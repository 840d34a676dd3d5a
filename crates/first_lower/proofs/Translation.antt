-- The text of a body of the first path is a translation of its program.
use Rattle.std.proofs.Common.{◌≡◌, ℕ, suc, ◌+◌, ◌⊎◌, Bool, true, false, cond, List, [], ◌∷◌, ◌++◌, length, Option, Some, None, codes, refl, sym, ap, ◌∙◌, arith, inl, inr}
use Rattle.std.proofs.lemmas.Bool.Decides.{nat_tests}
use Rattle.csub_tree.specs.Checked as checked
use Rattle.rpy_words.specs.Names.{is_name_byte, name_len}
use Rattle.rpy_words.specs.Command.{is_name, begins_with_letter}
use Rattle.rpy_words.proofs.Tests.{and_right, and_both}
use Rattle.rpy_tree.specs.declared.syntax.Module.{Module}
use Rattle.rpy_first.specs.FirstPath.{first_path, if_bound, members_body}
use Rattle.rpy_first.specs.Program.{is_bound, program_of}
use Rattle.rpy_first.specs.declared.body.Body.{Body}
use Rattle.first_lower.specs.Lower.{lowered, text_of}
use Rattle.first_lower.specs.Built.{Built}
use Rattle.first_lower.proofs.Abstract.{eq_of}
use Rattle.first_lower.proofs.Rules.{keeps_rules}
use Rattle.first_lower.proofs.Whole.{meets_always}

bool_cases : (b : Bool) → (b ≡ true) ⊎ (b ≡ false)
bool_cases true = inl refl
bool_cases false = inr refl

-- what may stand in a name may stand in the name of a C function
byte_ok : (b : ℕ) → is_name_byte b ≡ true → checked.is_name_byte b ≡ true
byte_ok b h = grind (arith, nat_tests)

dot_ok : checked.is_name (codes ".entry_point") ≡ true
dot_ok = refl

name_ok : (name : List ℕ) → name_len name ≡ length name → checked.is_name (name ++ codes ".entry_point") ≡ true
unfolding name_len
name_ok [] e = dot_ok
name_ok (b ∷ bs) e = elim (bool_cases (is_name_byte b)) [
  | inl t ↦ and_both _ _ (byte_ok b t) (name_ok bs (omega (arith, sym (ap (λ x. cond x (suc (name_len bs)) 0) t) ∙ e)))
  | inr f ↦ absurd (omega (arith, sym (ap (λ x. cond x (suc (name_len bs)) 0) f) ∙ e))
]

none_some : (body : Body) → None ≡ Some body → ⊥
none_some body e = cc

some_same : (a b : Body) → Some a ≡ Some b → a ≡ b
some_same a b e = cc

-- the locals of a first-path text are bound where they are read
bound_of : (found : Option Body) (body : Body) → if_bound found ≡ Some body → is_bound body ≡ true
bound_of None body e = absurd cc
bound_of (Some whole) body e = elim (bool_cases (is_bound whole)) [
  | inl t ↦ (let same : Some whole ≡ Some body = sym (ap (λ x. cond x (Some whole) None) t) ∙ e in sym (ap is_bound (some_same whole body same)) ∙ t)
  | inr f ↦ absurd (none_some body (sym (ap (λ x. cond x (Some whole) None) f) ∙ e))
]

pub built : (name : List ℕ) (m : Module) (body : Body) (text : List ℕ) → is_name name ≡ true → first_path m ≡ Some body → text ≡ text_of name body → Built (program_of body) text
built name m body text named is_path is = record {
  file = lowered (name ++ codes ".entry_point") body;
  spells = is;
  checked = keeps_rules (name ++ codes ".entry_point") body (name_ok name (eq_of _ _ (and_right (begins_with_letter name) _ named))) (bound_of (members_body m.members) body is_path);
  meets = λ args steps. meets_always args (name ++ codes ".entry_point") body (bound_of (members_body m.members) body is_path) steps;
}
