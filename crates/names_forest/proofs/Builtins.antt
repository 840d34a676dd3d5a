-- The builtin exception classes stand below the first of them.
use Rattle.std.proofs.Common.{◌≡◌, ◌<◌, ℕ, zero, suc, ◌+◌, ◌-◌, Bool, true, false, List, [], ◌∷◌, ◌++◌, length, map, Option, Some, None, refl, sym, ap, ◌∙◌, arith, length-append}
use Rattle.std.specs.Prelude.{cond, ◌==◌, ◌||◌, slice_get}
use Rattle.std.specs.List.{list_any, zip}
use Rattle.rpy_tree.specs.declared.program.ClassInfo.{ClassInfo}
use Rattle.rpy_tree.specs.declared.program.Program as tree
use Rattle.rpy_meaning.specs.Classes as class
use Rattle.rpy_meaning.specs.Classes.{line_of, is_below}
use Rattle.rpy_meaning.specs.Operations.{builtin_classes}
use Rattle.rpy_meaning.specs.Resolved.{Further, builtin_names, class_names_from, class_by, program_of}
use Rattle.rpy_meaning.specs.Tree.{Class}
use Rattle.rpy_nodes.specs.declared.listing.Named.{Named}
use Rattle.names_bound.specs.Scopes.{base_in, base_of}
use Rattle.names_rules.specs.Bases as rule
use Rattle.names_rules.specs.Bases.{builtin_bases, bases_of, above, leads_back, kept_to, without_rings}
use Rattle.names_rules.specs.Bindings.{none_before}
use Rattle.names_rules.specs.Members.{members}
use Rattle.names_rules.specs.Program.{module_bindings, body_bindings, bases}
use Rattle.names_constants.specs.Faults.{constant_values}
use Rattle.names_whole.specs.Classes.{builtins_to, classes_from}
use Rattle.names_whole.specs.Functions.{as_number}
use Rattle.names_whole.proofs.Program.{program_is}
use Rattle.rpy_names.specs.Resolve.{prog}

-- ---- bases that are kept

kept_many : (bs : List (Option ℕ)) (n : ℕ) → length (kept_to bs n) ≡ n
kept_many bs zero = refl
kept_many bs (suc n) = length-append (kept_to bs n) _ ∙ (let e : length (kept_to bs n) ≡ n = kept_many bs n in omega (arith, e))

get_first : {A : Type 0} (xs more : List A) (k : ℕ) → k < length xs → slice_get (xs ++ more) k ≡ slice_get xs k
get_first [] more k h = absurd (omega arith)
get_first (x ∷ xs) more zero h = refl
get_first (x ∷ xs) more (suc k) h = get_first xs more k (omega arith)

get_last : {A : Type 0} (xs : List A) (x : A) → slice_get (xs ++ x ∷ []) (length xs) ≡ Some x
get_last [] x = refl
get_last (y ∷ xs) x = get_last xs x

abbrev kept_at : List (Option ℕ) → ℕ → Option ℕ
kept_at bs n = cond (leads_back bs n) None (base_in bs n)

-- the base of a class below a bound
kept_base : (bs : List (Option ℕ)) (n k : ℕ) → base_in (kept_to bs (k + suc n)) n ≡ kept_at bs n
kept_base bs n zero = (let e : 0 + suc n ≡ suc n = omega arith in ap (λ m. base_in (kept_to bs m) n) e) ∙ ap base_of (ap (slice_get (kept_to bs n ++ kept_at bs n ∷ [])) (sym (kept_many bs n)) ∙ get_last (kept_to bs n) (kept_at bs n))
kept_base bs n (suc k) = (let e : suc k + suc n ≡ suc (k + suc n) = omega arith in ap (λ m. base_in (kept_to bs m) n) e) ∙ ap base_of (get_first (kept_to bs (k + suc n)) (kept_at bs (k + suc n) ∷ []) n (let m : length (kept_to bs (k + suc n)) ≡ k + suc n = kept_many bs (k + suc n) in omega (arith, m))) ∙ kept_base bs n k

-- ---- the builtin ones

module _ (rest : List (Option ℕ)) where
  abbrev all : List (Option ℕ)
  all = builtin_bases ++ rest

  -- none of them leads back
  comes_to_an_end : (k n : ℕ) → n < 13 → list_any (λ b. b == n) (above all (suc (suc (suc (suc (suc k))))) n) ≡ false
  comes_to_an_end k zero h = refl
  comes_to_an_end k (suc zero) h = refl
  comes_to_an_end k (suc (suc zero)) h = refl
  comes_to_an_end k (suc (suc (suc zero))) h = refl
  comes_to_an_end k (suc (suc (suc (suc zero)))) h = refl
  comes_to_an_end k (suc (suc (suc (suc (suc zero))))) h = refl
  comes_to_an_end k (suc (suc (suc (suc (suc (suc zero)))))) h = refl
  comes_to_an_end k (suc (suc (suc (suc (suc (suc (suc zero))))))) h = refl
  comes_to_an_end k (suc (suc (suc (suc (suc (suc (suc (suc zero)))))))) h = refl
  comes_to_an_end k (suc (suc (suc (suc (suc (suc (suc (suc (suc zero))))))))) h = refl
  comes_to_an_end k (suc (suc (suc (suc (suc (suc (suc (suc (suc (suc zero)))))))))) h = refl
  comes_to_an_end k (suc (suc (suc (suc (suc (suc (suc (suc (suc (suc (suc zero))))))))))) h = refl
  comes_to_an_end k (suc (suc (suc (suc (suc (suc (suc (suc (suc (suc (suc (suc zero)))))))))))) h = refl
  comes_to_an_end k (suc (suc (suc (suc (suc (suc (suc (suc (suc (suc (suc (suc (suc n))))))))))))) h = absurd (omega arith)

  not_back : (n : ℕ) → n < 13 → leads_back all n ≡ false
  not_back n h = comes_to_an_end (suc (suc (suc (suc (suc (suc (suc (suc (length rest))))))))) n h

  base_is : (n : ℕ) → n < 13 → base_in (without_rings all) n ≡ base_in all n
  base_is n h =
      let k : ℕ = 12 - n + length rest in
      let e : length all ≡ k + suc n = omega arith in
      ap (λ m. base_in (kept_to all m) n) e ∙ kept_base all n k ∙ ap (λ b. cond b None (base_in all n)) (not_back n h)

  module _ (p : tree.Program) (more : List ClassInfo) (is : p.classes ≡ builtins_to (without_rings all) 13 ++ more) (further : Further) where
    abbrev classes_by : List ClassInfo → List Class
    classes_by infos = map (λ (c : List ℕ × ClassInfo). class_by p further c.0 c.1) (zip (builtin_names ++ class_names_from p further p.names p.modules) infos)

    abbrev given : List ClassInfo
    given = builtins_to (without_rings all) 13 ++ more

    abbrev line : ℕ → ℕ → List ℕ
    line k c = line_of (program_of p further).classes k (Some c)

    builtin_at : (n : ℕ) → n < 13 → class.base_of (slice_get (classes_by given) n) ≡ as_number (base_in (without_rings all) n)
    builtin_at zero h = refl
    builtin_at (suc zero) h = refl
    builtin_at (suc (suc zero)) h = refl
    builtin_at (suc (suc (suc zero))) h = refl
    builtin_at (suc (suc (suc (suc zero)))) h = refl
    builtin_at (suc (suc (suc (suc (suc zero))))) h = refl
    builtin_at (suc (suc (suc (suc (suc (suc zero)))))) h = refl
    builtin_at (suc (suc (suc (suc (suc (suc (suc zero))))))) h = refl
    builtin_at (suc (suc (suc (suc (suc (suc (suc (suc zero)))))))) h = refl
    builtin_at (suc (suc (suc (suc (suc (suc (suc (suc (suc zero))))))))) h = refl
    builtin_at (suc (suc (suc (suc (suc (suc (suc (suc (suc (suc zero)))))))))) h = refl
    builtin_at (suc (suc (suc (suc (suc (suc (suc (suc (suc (suc (suc zero))))))))))) h = refl
    builtin_at (suc (suc (suc (suc (suc (suc (suc (suc (suc (suc (suc (suc zero)))))))))))) h = refl
    builtin_at (suc (suc (suc (suc (suc (suc (suc (suc (suc (suc (suc (suc (suc n))))))))))))) h = absurd (omega arith)

    class_base : (n : ℕ) → n < 13 → class.base_of (slice_get (program_of p further).classes n) ≡ as_number (base_in all n)
    class_base n h = ap (λ infos. class.base_of (slice_get (classes_by infos) n)) is ∙ builtin_at n h ∙ ap as_number (base_is n h)

    -- ---- the way up

    at_first : (k : ℕ) → list_any (λ e. e == 0) (line (suc k) 0) ≡ true
    at_first k = refl

    either : (a b : Bool) → b ≡ true → (a || b) ≡ true
    either true b h = refl
    either false b h = h

    up : (c b k : ℕ) → class.base_of (slice_get (program_of p further).classes c) ≡ Some b → list_any (λ e. e == 0) (line (suc k) b) ≡ true → list_any (λ e. e == 0) (line (suc (suc k)) c) ≡ true
    up c b k base h = either (c == 0) _ (ap (λ o. list_any (λ e. e == 0) (line_of (program_of p further).classes (suc k) o)) base ∙ h)

    reaches : (k n : ℕ) → n < 13 → list_any (λ e. e == 0) (line (suc (suc (suc (suc (suc k))))) n) ≡ true
    reaches k zero h = (at_first (suc (suc (suc (suc k)))))
    reaches k (suc zero) h = (up 1 0 (suc (suc (suc k))) (class_base 1 (omega arith)) (at_first (suc (suc (suc k)))))
    reaches k (suc (suc zero)) h = (up 2 1 (suc (suc (suc k))) (class_base 2 (omega arith)) (up 1 0 (suc (suc k)) (class_base 1 (omega arith)) (at_first (suc (suc k)))))
    reaches k (suc (suc (suc zero))) h = (up 3 2 (suc (suc (suc k))) (class_base 3 (omega arith)) (up 2 1 (suc (suc k)) (class_base 2 (omega arith)) (up 1 0 (suc k) (class_base 1 (omega arith)) (at_first (suc k)))))
    reaches k (suc (suc (suc (suc zero)))) h = (up 4 2 (suc (suc (suc k))) (class_base 4 (omega arith)) (up 2 1 (suc (suc k)) (class_base 2 (omega arith)) (up 1 0 (suc k) (class_base 1 (omega arith)) (at_first (suc k)))))
    reaches k (suc (suc (suc (suc (suc zero))))) h = (up 5 1 (suc (suc (suc k))) (class_base 5 (omega arith)) (up 1 0 (suc (suc k)) (class_base 1 (omega arith)) (at_first (suc (suc k)))))
    reaches k (suc (suc (suc (suc (suc (suc zero)))))) h = (up 6 5 (suc (suc (suc k))) (class_base 6 (omega arith)) (up 5 1 (suc (suc k)) (class_base 5 (omega arith)) (up 1 0 (suc k) (class_base 1 (omega arith)) (at_first (suc k)))))
    reaches k (suc (suc (suc (suc (suc (suc (suc zero))))))) h = (up 7 5 (suc (suc (suc k))) (class_base 7 (omega arith)) (up 5 1 (suc (suc k)) (class_base 5 (omega arith)) (up 1 0 (suc k) (class_base 1 (omega arith)) (at_first (suc k)))))
    reaches k (suc (suc (suc (suc (suc (suc (suc (suc zero)))))))) h = (up 8 1 (suc (suc (suc k))) (class_base 8 (omega arith)) (up 1 0 (suc (suc k)) (class_base 1 (omega arith)) (at_first (suc (suc k)))))
    reaches k (suc (suc (suc (suc (suc (suc (suc (suc (suc zero))))))))) h = (up 9 1 (suc (suc (suc k))) (class_base 9 (omega arith)) (up 1 0 (suc (suc k)) (class_base 1 (omega arith)) (at_first (suc (suc k)))))
    reaches k (suc (suc (suc (suc (suc (suc (suc (suc (suc (suc zero)))))))))) h = (up 10 1 (suc (suc (suc k))) (class_base 10 (omega arith)) (up 1 0 (suc (suc k)) (class_base 1 (omega arith)) (at_first (suc (suc k)))))
    reaches k (suc (suc (suc (suc (suc (suc (suc (suc (suc (suc (suc zero))))))))))) h = (up 11 1 (suc (suc (suc k))) (class_base 11 (omega arith)) (up 1 0 (suc (suc k)) (class_base 1 (omega arith)) (at_first (suc (suc k)))))
    reaches k (suc (suc (suc (suc (suc (suc (suc (suc (suc (suc (suc (suc zero)))))))))))) h = (up 12 11 (suc (suc (suc k))) (class_base 12 (omega arith)) (up 11 1 (suc (suc k)) (class_base 11 (omega arith)) (up 1 0 (suc k) (class_base 1 (omega arith)) (at_first (suc k)))))
    reaches k (suc (suc (suc (suc (suc (suc (suc (suc (suc (suc (suc (suc (suc n))))))))))))) h = absurd (omega arith)

    pub builtins_below : (n : ℕ) → n < builtin_classes → is_below (program_of p further).classes n 0 ≡ true
    builtins_below n h =
        ap (λ k. list_any (λ e. e == 0) (line k n)) (ap (λ infos. length (classes_by infos)) is)
        ∙ reaches (suc (suc (suc (suc (suc (suc (suc (suc (length (map (λ (c : List ℕ × ClassInfo). class_by p further c.0 c.1) (zip (class_names_from p further p.names p.modules) more))))))))))) n h

-- in the program that the code gives
pub builtins_stand : (ms : List Named) (p : tree.Program) → prog ms ≡ Some p → (further : Further) (n : ℕ) → n < builtin_classes → is_below (program_of p further).classes n 0 ≡ true
builtins_stand ms p h further n lt =
    builtins_below (bases_of (module_bindings ms) (body_bindings ms) [] (rule.classes (members ms)) (rule.classes (members ms))) p
    (classes_from (bases ms) (constant_values ms) none_before (members ms)) (ap (λ (q : tree.Program). q.classes) (program_is ms p h)) further n lt
