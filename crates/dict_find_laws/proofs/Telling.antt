-- Keys are compared, at any depth.
use Rattle.std.proofs.Common.{◌≡◌, ℕ, suc, Bool, false, List, [], ◌∷◌, Option, Some, refl, sym, subst}
use Rattle.ann_element.specs.declared.element.Element.{Element}
use Rattle.csub_tree.specs.State.{Value, Flag, Core}
use Rattle.ll_code.specs.State.{Frame, Calling}
use Rattle.ll_code.specs.declared.program.LlType.{LlType}
use Rattle.ll_code.specs.declared.program.LlProgram.{LlProgram}
use Rattle.ll_build.specs.declared.needs.Numbers.{Numbers}
use Rattle.ll_leads.proofs.Ways.{Comes}
use Rattle.rpy_tree.specs.Value.{Value as Meant, Heap}
use Rattle.rpy_meaning.specs.Compare.{all_equal, both, equal, holds, is_equal}
use Rattle.rpy_meaning.specs.Sequences.{parts_of, tuple}
use Rattle.rtyper_layout.specs.declared.layout.Layout.{Layout}
use Rattle.rtyper_layout.specs.Layout.{is_tuple}
use Rattle.rtyper_data.specs.declared.found.Found.{Found}
use Rattle.rtyper_data.specs.declared.small.Small.TheVariants as small
use Rattle.rtyper_data.specs.Finding.{small_number}
use Rattle.lower_laws.specs.Asked.{Make}
use Rattle.object_laws.specs.Done.{HasLayout}
use Rattle.object_laws.specs.Ghost.{Ghost}
use Rattle.object_laws.specs.Known.{Known}
use Rattle.object_laws.specs.Represents.{Represents}
use Rattle.object_laws.specs.Values.{AllHold, Holds, Next, End, Stands, word, flag, byte, text, missing}
use Rattle.object_laws.proofs.Valued.{plain_is_simple, plain_stands}
use Rattle.conversion_laws.specs.Asked.{Has as HasConversion}
use Rattle.conversion_laws.specs.Compared.{AllCompare, Compares}
use Rattle.conversion_laws.specs.Compared as compares
use Rattle.conversion_laws.specs.Going.{IsTuple}
use Rattle.conversion_laws.proofs.Equality.{all_levels, tuples_are_told}
use Rattle.conversion_laws.proofs.Moving.{has_to_kept}
use Rattle.conversion_laws.proofs.Valued.{tuple_held}
use Rattle.dict_find_laws.specs.Keys.{AllAreKeys, AreKeys}
use Rattle.dict_find_laws.specs.Keys as keys

-- ---- keys are equal or not

stands_told : {g : Ghost} {t : LlType} {x y : Value} {u v : Meant} → Stands g t x u → Stands g t y v → equal u v ≡ Some (is_equal u v)
stands_told (word z f) (word z2 f2) = refl
stands_told (flag b) (flag c) = refl
stands_told (byte b s) (byte c t) = refl
stands_told (text x bytes s) (text y bits t) = refl
stands_told (text x bytes s) missing = refl
stands_told missing (text y bits t) = refl
stands_told missing missing = refl

both_some : (a b : Bool) (o p : Option Bool) → o ≡ Some a → p ≡ Some b → both o p ≡ Some (holds (both o p))
both_some a b o p h k = subst (λ o. both o p ≡ Some (holds (both o p))) (sym h) (subst (λ p. both (Some a) p ≡ Some (holds (both (Some a) p))) (sym k) refl)

module _ {layout : Layout} {known : Known} {g : Ghost} where
  mutual
    pub keys_told : {seen : Option Element} {x y : Value} {u v : Meant} → AreKeys layout seen → Holds layout known g seen x u → Holds layout known g seen y v → equal u v ≡ Some (is_equal u v)
    keys_told (keys.Plain p) a b = stands_told (plain_stands p a) (plain_stands p b)
    keys_told {u = u} {v = v} (keys.Items n parts apart is all) a b =
        let i = tuple_held n parts is a in
        let j = tuple_held n parts is b in
        subst (λ u. equal u v ≡ Some (is_equal u v)) (sym i.high) (subst (λ v. equal (tuple i.vs) v ≡ Some (is_equal (tuple i.vs) v)) (sym j.high) (all_told all i.all j.all))

    all_told : {parts : List Element} {xs ys : List Value} {us vs : List Meant} → AllAreKeys layout parts → AllHold layout known g parts xs us → AllHold layout known g parts ys vs → all_equal (parts_of us) (parts_of vs) ≡ Some (holds (all_equal (parts_of us) (parts_of vs)))
    all_told keys.End End End = refl
    all_told (keys.Next one all) (Next {v = u} {vs = us} a more_a) (Next {v = v} {vs = vs} b more_b) =
        both_some (is_equal u v) (holds (all_equal (parts_of us) (parts_of vs))) (equal u v) (all_equal (parts_of us) (parts_of vs)) (keys_told one a b) (all_told all more_a more_b)

-- ---- and are compared

mutual
  key_compares : {layout : Layout} {seen : Option Element} → AreKeys layout seen → Compares layout seen seen
  key_compares (keys.Plain p) = compares.Simple (plain_is_simple _ p) (plain_is_simple _ p)
  key_compares (keys.Items n parts apart is all) = compares.Items n n parts parts is is (all_compare all)

  pub all_compare : {layout : Layout} {parts : List Element} → AllAreKeys layout parts → AllCompare layout parts parts
  all_compare keys.End = compares.End
  all_compare (keys.Next one all) = compares.Next (key_compares one) (all_compare all)

-- by the graph for them
module _ {layout : Layout} {known : Known} {seen : Option Element} (p : LlProgram) (args : List (List ℕ)) (numbers : Numbers) (raised : ℕ → Value) (made : Found) (before core : Core) (g : Ghost) (heap : Heap) (left : ℕ) (structs : HasLayout p layout) where
  pub tuples_alike : (same : (core.statics ≡ before.statics) × (core.steps ≡ before.steps)) → (q : ℕ) → HasConversion p layout numbers raised before (Make (small.Equal q q)) made → Represents layout known g heap left core.blocks core.statics → is_tuple layout 0 ≡ false
      → (parts : List Element) → IsTuple layout seen q parts → AllAreKeys layout parts → (waits : List Frame) (y x : Value) (u v : Meant) → Holds layout known g seen y u → Holds layout known g seen x v
      → Comes p args (Calling (small_number (small.Equal q q) made).0 (y ∷ x ∷ []) waits core) [] (Flag (is_equal u v)) waits core
  tuples_alike same q has r apart parts is all waits y x u v held_y held_x =
      let both = all_compare all in
      tuples_are_told layout known apart q q parts parts is is both made y x p numbers raised args core g heap left u v (is_equal u v) structs
      (has_to_kept p layout numbers raised before core same.0 same.1 (suc (all_levels both)) (Make (small.Equal q q)) made (has (suc (all_levels both)))) r held_y held_x (keys_told (keys.Items q parts apart is all) held_y held_x) waits
