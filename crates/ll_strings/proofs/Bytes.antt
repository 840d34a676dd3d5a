-- Blanks and letters.
use Rattle.std.proofs.Common.{◌≡◌, ℕ, Bool, true, false, ◌&&◌, ◌||◌, List, [], ◌∷◌, Option, Some, Ok, refl, ap, subst, arith}
use Rattle.std.proofs.lemmas.Bool.Decides.{nat_tests}
use Rattle.std.specs.Prelude.{slice_get, nat_lt, nat_le, nat_eq, codes}
use Rattle.rpy_base.specs.Number.{blank}
use Rattle.rpy_meaning.specs.declared.row.RowOp.TheVariants as row
use Rattle.csub_tree.specs.State.{Byte, Flag, Core}
use Rattle.ll_code.specs.State.{Frame, Calling}
use Rattle.ll_code.specs.declared.program.LlType.TheVariants as type
use Rattle.ll_code.specs.declared.program.LlProgram.{LlProgram}
use Rattle.ll_leads.proofs.Ways.{Comes, on, many, enter, gives}
use Rattle.ll_texts.specs.Stands.{flag, byte}
use Rattle.ll_texts.proofs.Following.{gave}
use Rattle.ll_helpers.specs.Words.{is_space}
use Rattle.ll_build.specs.declared.needs.Helper.TheVariants as helper
use Rattle.ll_strings.specs.Laws.{Is}
use Rattle.ll_strings.proofs.Equal.{same_numbers}

module _ (p : LlProgram) (args : List (List ℕ)) (space : ℕ) (of : slice_get p.graphs space ≡ Some is_space) (frames : List Frame) (core : Core) (b : ℕ) where
  abbrev Answers : Bool → Type 0
  Answers c = Comes p args (Calling space (Byte b ∷ []) frames core) [] (Flag c) frames core

  in_range : (c : Bool) → nat_eq b 32 ≡ false → nat_lt b 9 ≡ c → Answers (false || (nat_le 9 b && nat_le b 13))
  in_range true e l = subst (λ c. Answers (false || (c && nat_le b 13))) (let z : false ≡ nat_le 9 b = grind (arith, nat_tests, l) in z) (record {
    end = _;
    same = refl;
    leads = on (enter of refl) (on (many 1 of refl refl) (on (gives (Flag false) (ap (λ t. Ok (Flag t)) (same_numbers b 32 false e))) (on (many 1 of refl refl) (on (gives (Flag true) (ap (λ t. Ok (Flag t)) l)) (many 2 of refl refl)))));
  })
  in_range false e l = subst (λ c. Answers (false || (c && nat_le b 13))) (let z : true ≡ nat_le 9 b = grind (arith, nat_tests, l) in z) (record {
    end = _;
    same = refl;
    leads = on (enter of refl) (on (many 1 of refl refl) (on (gives (Flag false) (ap (λ t. Ok (Flag t)) (same_numbers b 32 false e))) (on (many 1 of refl refl) (on (gives (Flag false) (ap (λ t. Ok (Flag t)) l)) (on (many 1 of refl refl)
        (on (gives (Flag (nat_le b 13)) (ap (λ t. Ok (Flag t)) upper)) (many 1 of refl refl)))))));
  })
    where
      upper : nat_lt b 14 ≡ nat_le b 13
      upper = one (nat_lt b 14) refl
        where
          one : (c : Bool) → nat_lt b 14 ≡ c → c ≡ nat_le b 13
          one true e = grind (arith, nat_tests, e)
          one false e = grind (arith, nat_tests, e)

  by_space : (c : Bool) → nat_eq b 32 ≡ c → Answers (c || (nat_le 9 b && nat_le b 13))
  by_space true e = record {
    end = _;
    same = refl;
    leads = on (enter of refl) (on (many 1 of refl refl) (on (gives (Flag true) (ap (λ t. Ok (Flag t)) (same_numbers b 32 true e))) (many 2 of refl refl)));
  }
  by_space false e = in_range (nat_lt b 9) e refl

  pub asks_blank : Answers (blank b)
  asks_blank = by_space (nat_eq b 32) refl

  pub tells_blank : (c : Bool) → blank b ≡ c → Comes p args (Calling space (Byte b ∷ []) frames core) [] (Flag c) frames core
  tells_blank c e = subst Answers e asks_blank

pub space_is : (site : Option ℕ) → Is helper.IsSpace type.Char type.Bool (row.Method (codes "isspace") site)
space_is site program p args numbers f frames core w h left x v (byte b small) =
    let c = asks_blank p args f h.graph frames core b in
    gave left c.leads c.same (flag (blank b))
