-- What is left of a block finds what it reads under other names.
use Rattle.std.proofs.Common.{◌≡◌, ◌<◌, ℕ, zero, suc, Bool, true, false, ◌||◌, ◌&&◌, not, ◌==◌, List, [], ◌∷◌, length, Option, Some, None, refl, sym, ap, ◌∙◌, subst, arith}
use Rattle.std.specs.Prelude.{slice_set, slice_index_or, option_map}
use Rattle.csub_tree.specs.State.{Value, Unset, Core}
use Rattle.csub_tree.specs.Statement.{read, operand, taken_by}
use Rattle.csub_tree.specs.declared.tree.COperand.{COperand}
use Rattle.csub_tree.specs.declared.tree.COperand.TheVariants.{Var, Const}
use Rattle.ll_code.specs.declared.program.LlOp.{LlOp}
use Rattle.ll_code.specs.declared.program.LlExit.{LlExit}
use Rattle.ll_laws.proofs.Values.{is_same}
use Rattle.ll_live.specs.Live.{among, reads, set_by, sets, live}
use Rattle.ll_joined.specs.Named.{Naming, name_of, value_of}
use Rattle.joined_laws.specs.Renamed.{Wrote, Stands, IsApart, SetsApart, RenamedStand}
use Rattle.joined_laws.proofs.Moving.{or_second}

set_here : {A : Type 0} (xs : List A) (a : ℕ) (x d : A) → a < length xs → slice_index_or (slice_set xs a x) a d ≡ x
set_here [] a x d lt = absurd (omega (arith, lt))
set_here (y ∷ xs) zero x d lt = refl
set_here (y ∷ xs) (suc a) x d lt = set_here xs a x d (omega (arith, lt))

set_elsewhere : {A : Type 0} (xs : List A) (a b : ℕ) (x d : A) → (a ≡ b → ⊥) → slice_index_or (slice_set xs a x) b d ≡ slice_index_or xs b d
set_elsewhere [] a b x d ne = refl
set_elsewhere (y ∷ xs) zero zero x d ne = absurd (ne refl)
set_elsewhere (y ∷ xs) zero (suc b) x d ne = refl
set_elsewhere (y ∷ xs) (suc a) zero x d ne = refl
set_elsewhere (y ∷ xs) (suc a) (suc b) x d ne = set_elsewhere xs a b x d (λ e. ne (ap suc e))

differ : (a v : ℕ) → (a == v) ≡ false → a ≡ v → ⊥
differ a v e f = grind (arith, e, f)

module _ (names : Naming) (ops : List LlOp) (e : LlExit) (vars others : List Value) where
  -- what was not set stands as it did
  abbrev Stood : Option ℕ → Type 0
  Stood s = (v : ℕ) → live ops e v ≡ true → sets s v ≡ false → operand others (value_of names v) ≡ read vars v

  stands_now : (s : Option ℕ) → Stood s → SetsApart names s ops e vars others → (written : Value) → Stands names ops e (taken_by vars s written) (taken_by others (option_map (name_of names) s) written)
  stands_now None stood apart written v l = stood v l refl
  stands_now (Some a) stood (apart, lt, other_lt) written v l = one (a == v) refl
    where
      elsewhere : (a ≡ v → ⊥) → (x : COperand) → value_of names v ≡ x → operand (slice_set others (name_of names a) written) x ≡ operand others x
      elsewhere ne (Const c) is = refl
      elsewhere ne (Var u) is = set_elsewhere others (name_of names a) u written Unset (λ same. apart.others v l ne (is ∙ ap Var (sym same)))

      here : operand (slice_set others (name_of names a) written) (value_of names a) ≡ read (slice_set vars a written) a
      here = ap (operand (slice_set others (name_of names a) written)) apart.own ∙ set_here others (name_of names a) written Unset other_lt ∙ sym (set_here vars a written Unset lt)

      one : (b : Bool) → (a == v) ≡ b → operand (slice_set others (name_of names a) written) (value_of names v) ≡ read (slice_set vars a written) v
      one true is = subst (λ v. operand (slice_set others (name_of names a) written) (value_of names v) ≡ read (slice_set vars a written) v) (is_same a v is) here
      one false is = elsewhere (differ a v is) (value_of names v) refl ∙ stood v l is ∙ sym (set_elsewhere vars a v written Unset (differ a v is))

pub renamed_stand : RenamedStand
renamed_stand names o ops e old other_old core other stands apart wrote v l =
    ap (λ vs. operand vs (value_of names v)) wrote.other_vars
    ∙ stands_now names ops e old.vars other_old.vars (set_by o) (λ v l s. stands v (or_second (among v (reads o)) _ (still v l s))) apart wrote.written v l
    ∙ sym (ap (λ vs. read vs v) wrote.vars)
  where
    still : (v : ℕ) → live ops e v ≡ true → sets (set_by o) v ≡ false → (not (sets (set_by o) v) && live ops e v) ≡ true
    still v l s = ap (λ b. not b && live ops e v) s ∙ l
