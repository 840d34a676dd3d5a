-- The helper that compares strings, over the memory that it is called with.
use Rattle.std.proofs.Common.{◌≡◌, ℕ, Bool, true, false, List, [], ◌∷◌, length, Ok, pos, refl, sym, ap, ◌∙◌, subst, arith}
use Rattle.std.proofs.lemmas.Bool.Decides.{nat_tests}
use Rattle.std.proofs.lemmas.List.{append-nil}
use Rattle.std.specs.Prelude.{nat_eq}
use Rattle.std.specs.Str.{bytes_eq}
use Rattle.rpy_tree.specs.Value.{Value as Meant}
use Rattle.rpy_meaning.specs.Compare.{is_equal}
use Rattle.csub_tree.specs.State.{Value, Word, Flag, Core}
use Rattle.csub_tree.specs.declared.tree.CBinary.TheVariants.{Eq}
use Rattle.csub_tree.specs.declared.tree.COperand.TheVariants.{Var}
use Rattle.ll_code.specs.State.{Frame, Calling, At}
use Rattle.ll_code.specs.declared.program.LlType.TheVariants as type
use Rattle.ll_code.specs.declared.program.LlOp.TheVariants as op
use Rattle.ll_code.specs.declared.program.LlProgram.{LlProgram}
use Rattle.ll_build.specs.Build.{fork}
use Rattle.ll_build.specs.declared.needs.Helper.TheVariants as helper
use Rattle.ll_build.specs.declared.needs.Numbers.{Numbers}
use Rattle.ll_build.specs.declared.needs.Shared.TheVariants as shared
use Rattle.ll_leads.specs.Path.{Leads}
use Rattle.ll_leads.proofs.Ways.{Comes, on, many, enter, gives, call}
use Rattle.ll_strings.specs.Laws.{HasHelper}
use Rattle.ll_strings.proofs.Equal.{same_numbers, compares, other_length}
use Rattle.ll_texts.specs.Texts.{IsText}
use Rattle.ll_texts.specs.Stands.{Stands, text, missing}
use Rattle.ll_texts.proofs.Reading.{is_set, is_there, gets_length}

module _ (p : LlProgram) (args : List (List ℕ)) (numbers : Numbers) (f : ℕ) (first core : Core) (h : HasHelper p numbers helper.StrEqual f first) (frames : List Frame) where
  pub texts_alike : (x y : Value) (v u : Meant) → Stands core.blocks core.statics (type.Ptr 0) x v → Stands core.blocks core.statics (type.Ptr 0) y u → Comes p args (Calling f (x ∷ y ∷ []) frames core) [] (Flag (is_equal v u)) frames core
  texts_alike x y v u missing missing = record { end = _; same = refl; leads = on (enter h.graph refl) (many 4 h.graph refl refl) }
  texts_alike x y v u missing (text y2 b s) = record { end = _; same = refl; leads = on (enter h.graph refl) (on (many 2 h.graph refl (simp (is_set s))) (on (gives (Flag false) (is_there s)) (many 1 h.graph refl refl))) }
  texts_alike x y v u (text x2 a t) missing = record { end = _; same = refl; leads = on (enter h.graph refl) (on (gives (Flag false) (is_there t)) (on (many 1 h.graph refl (simp (is_set t))) (many 3 h.graph refl refl))) }
  texts_alike x y v u (text x2 a t) (text y2 b s) = by (nat_eq (length a) (length b)) refl
    where
      to_lengths : Leads p args 0 (Calling f (x ∷ y ∷ []) frames core) [] (At (◌∷◌ (op.Binary 2 Eq (Var 3) (Var 4)) []) (fork 2 4 (Var 0 ∷ Var 1 ∷ Var 3 ∷ []) 5 []) frames (record core { function = f; block = 3; at = 2; vars = x ∷ y ∷ Flag false ∷ Word (pos (length a)) ∷ Word (pos (length b)) ∷ [] }))
      to_lengths = on (enter h.graph refl) (on (gives (Flag false) (is_there t)) (on (many 1 h.graph refl (simp (is_set t, is_set s))) (on (gives (Flag false) (is_there s)) (on (many 1 h.graph refl (simp (is_set t, is_set s))) (on (gets_length h.text t) (gets_length h.text s))))))

      by : (c : Bool) → nat_eq (length a) (length b) ≡ c → Comes p args (Calling f (x ∷ y ∷ []) frames core) [] (Flag (bytes_eq a b)) frames core
      by true e =
          let len : length a ≡ length b = grind (arith, nat_tests, e) in
          record {
            end = _;
            same = refl;
            leads = on to_lengths (on (gives (Flag true) (ap (λ t. Ok (Flag t)) (same_numbers (length a) (length b) true e))) (on (many 1 h.graph refl (simp (is_set t, is_set s)))
                (on (call (simp (is_set t, is_set s)) (λ waits. compares p args numbers.alike_bytes (h.shared shared.AlikeBytes refl) h.text waits _ x y [] a [] [] b [] 0 0 (length a)
                (subst (IsText core.blocks core.statics x) (sym (append-nil a)) t) (subst (IsText core.blocks core.statics y) (sym (append-nil b)) s) (sym len) refl refl refl (omega (arith, t.short)) (omega (arith, t.short))))
                (many 1 h.graph refl refl))));
          }
      by false e = subst (λ c. Comes p args (Calling f (x ∷ y ∷ []) frames core) [] (Flag c) frames core) (sym (other_length a b (λ q. (let z : nat_eq (length a) (length b) ≡ true = grind (arith, nat_tests, q) in let w : true ≡ false = sym z ∙ e in cc)))) (record {
        end = _;
        same = refl;
        leads = on to_lengths (on (gives (Flag false) (ap (λ t. Ok (Flag t)) (same_numbers (length a) (length b) false e))) (many 2 h.graph refl refl));
      })
