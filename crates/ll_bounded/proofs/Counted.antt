-- Blocks that are charged are no more than the values that they are charged to.
use Rattle.std.proofs.Common.{◌≡◌, ◌<◌, ◌≤◌, inl, inr, ℕ, suc, ◌+◌, ◌*◌, Bool, true, false, ◌==◌, ◌&&◌, List, [], ◌∷◌, ◌++◌, length, Option, refl, sym, ap, ◌∙◌, subst, arith, length-append}
use Rattle.std.specs.Prelude.{not, sum_by}
use Rattle.std.proofs.lemmas.List.Sums.{sum_by-cons}
use Rattle.csub_tree.specs.State.{Value, Block}
use Rattle.rpy_tree.specs.Value.{Value as Meant, Heap}
use Rattle.rpy_tree.specs.Held.{texts, values_at}
use Rattle.ll_laws.proofs.Values.{and_left, and_right}
use Rattle.ll_held.proofs.Keeping.{same_number}
use Rattle.ll_held.specs.Held.{times, Held, is_new, are_distinct, AllHeld}
use Rattle.ll_bounded.specs.Represents.{IsIn, AllStand, Represents, HeapHeld, RootsStand, FewBlocks}
use Rattle.ll_bounded.proofs.Charged.{in_left, in_right, covers, covers_few, inside, at_roots, Charged, of_object, in_object, of_root, charged}

pub both : (a b : Bool) → a ≡ true → b ≡ true → (a && b) ≡ true
both true b h k = k
both false b h k = absurd (cc)

-- ---- pigeons

remove : (a : ℕ) (m : List ℕ) → IsIn a m → List ℕ
remove a [] q = absurd q
remove a (b ∷ m) (inl e) = m
remove a (b ∷ m) (inr q) = b ∷ remove a m q

removed : (a : ℕ) (m : List ℕ) (q : IsIn a m) → length m ≡ suc (length (remove a m q))
unfolding remove
removed a [] q = absurd q
removed a (b ∷ m) (inl e) = refl
removed a (b ∷ m) (inr q) = ap suc (removed a m q)

stays_in : (a : ℕ) (m : List ℕ) (q : IsIn a m) (c : ℕ) → IsIn c m → ((a ≡ c) → ⊥) → IsIn c (remove a m q)
unfolding remove
stays_in a [] q c i ne = absurd q
stays_in a (b ∷ m) (inl e) c (inl f) ne = absurd (ne (e ∙ sym f))
stays_in a (b ∷ m) (inl e) c (inr i) ne = i
stays_in a (b ∷ m) (inr q) c (inl f) ne = inl f
stays_in a (b ∷ m) (inr q) c (inr i) ne = inr (stays_in a m q c i ne)

new_apart : (a : ℕ) (l : List ℕ) → is_new a l ≡ true → (c : ℕ) → IsIn c l → (a ≡ c) → ⊥
new_apart a [] n c i e = i
new_apart a (b ∷ l) n c (inl f) e = let g : (a == b) ≡ true = same (e ∙ f) in let h : not (a == b) ≡ true = and_left _ _ n in let k : not true ≡ true = ap not (sym g) ∙ h in absurd (cc)
  where
    same : a ≡ b → (a == b) ≡ true
    same e = ap (λ k. a == k) (sym e) ∙ same_number a
new_apart a (b ∷ l) n c (inr i) e = new_apart a l (and_right _ _ n) c i e

pub pigeons : (l m : List ℕ) → are_distinct l ≡ true → ((a : ℕ) → IsIn a l → IsIn a m) → length l ≤ length m
pigeons [] m w f = omega arith
pigeons (a ∷ l) m w f =
    let q = f a (inl refl) in
    let ih : length l ≤ length (remove a m q) = pigeons l (remove a m q) (and_right _ _ w) (λ c i. stays_in a m q c (f c (inr i)) (new_apart a l (and_left _ _ w) c i)) in
    let n : length m ≡ suc (length (remove a m q)) = removed a m q in omega (arith, n, ih)

-- ---- the blocks of objects

module _ (prebuilt : ℕ) (heap : Heap) (blocks : List (Option Block)) (own : ℕ → List ℕ) (kept : ℕ → List Value) (rank : ℕ → ℕ) (r : Represents prebuilt heap blocks own kept rank) where
  abbrev blocks_of : ℕ → List ℕ
  blocks_of i = own i ++ inside prebuilt heap blocks own kept rank r i

  abbrev all_of : List ℕ → List ℕ
  all_of [] = []
  all_of (i ∷ is) = blocks_of i ++ all_of is

  few_all : (is : List ℕ) → length (all_of is) ≤ 3 * length is + sum_by (λ i. sum_by texts (values_at heap i)) is
  unfolding inside
  few_all [] = omega arith
  few_all (i ∷ is) =
      let a : length (own i) ≤ 3 = r.few i in
      let b : length (covers blocks own (r.stand i)) ≤ sum_by texts (values_at heap i) = covers_few blocks own (r.stand i) in
      let c : length (own i ++ covers blocks own (r.stand i)) ≡ length (own i) + length (covers blocks own (r.stand i)) = length-append (own i) (covers blocks own (r.stand i)) in
      let d : length ((own i ++ covers blocks own (r.stand i)) ++ all_of is) ≡ length (own i ++ covers blocks own (r.stand i)) + length (all_of is) = length-append (own i ++ covers blocks own (r.stand i)) (all_of is) in
      let e : sum_by (λ i. sum_by texts (values_at heap i)) (i ∷ is) ≡ sum_by texts (values_at heap i) + sum_by (λ i. sum_by texts (values_at heap i)) is = sum_by-cons (λ i. sum_by texts (values_at heap i)) i is in
      let f : length (all_of is) ≤ 3 * length is + sum_by (λ i. sum_by texts (values_at heap i)) is = few_all is in omega (arith, a, b, c, d, e, f)

  in_all : (a i : ℕ) (is : List ℕ) → IsIn i is → IsIn a (blocks_of i) → IsIn a (all_of is)
  in_all a i [] q m = absurd q
  in_all a i (j ∷ is) (inl e) m = in_left a (blocks_of j) (all_of is) (subst (λ k. IsIn a (blocks_of k)) e m)
  in_all a i (j ∷ is) (inr q) m = in_right a (blocks_of j) (all_of is) (in_all a i is q m)

  module _ (roots : List Value) (holds : List Meant) (ls : List Value) (all : AllStand blocks own ls holds) (among : (b : ℕ) → 0 < times b roots → 0 < times b ls) (objects : List ℕ) (each : (i : ℕ) → HeapHeld heap holds i → prebuilt ≤ i → i < length heap → IsIn i objects) where
    covered : (b : ℕ) → Charged prebuilt heap blocks own kept rank r roots holds ls all among b → IsIn b (covers blocks own all ++ all_of objects)
    unfolding at_roots
    covered b (of_root m) = in_left b (covers blocks own all) (all_of objects) m
    covered b (of_object i h m) = in_right b (covers blocks own all) (all_of objects) (in_all b i objects (each i h (r.none b i m) (r.there b i m)) (in_left b (own i) (inside prebuilt heap blocks own kept rank r i) m))
    covered b (in_object i h le lt m) = in_right b (covers blocks own all) (all_of objects) (in_all b i objects (each i h le lt) (in_right b (own i) (inside prebuilt heap blocks own kept rank r i) m))

    each_held : (bs : List ℕ) → AllHeld blocks roots bs → (b : ℕ) → IsIn b bs → Held blocks roots b
    each_held [] k b i = absurd i
    each_held (c ∷ bs) (k, ks) b (inl e) = subst (Held blocks roots) (sym e) k
    each_held (c ∷ bs) (k, ks) b (inr i) = each_held bs ks b i

    pub few_blocks : (bs : List ℕ) → are_distinct bs ≡ true → AllHeld blocks roots bs → length bs ≤ 3 * length objects + (sum_by texts holds + sum_by (λ i. sum_by texts (values_at heap i)) objects)
    few_blocks bs d k =
        let a : length bs ≤ length (covers blocks own all ++ all_of objects) = pigeons bs (covers blocks own all ++ all_of objects) d (λ b i. covered b (charged prebuilt heap blocks own kept rank r roots holds ls all among (each_held bs k b i))) in
        let b : length (covers blocks own all ++ all_of objects) ≡ length (covers blocks own all) + length (all_of objects) = length-append (covers blocks own all) (all_of objects) in
        let c : length (covers blocks own all) ≤ sum_by texts holds = covers_few blocks own all in
        let e : length (all_of objects) ≤ 3 * length objects + sum_by (λ i. sum_by texts (values_at heap i)) objects = few_all objects in omega (arith, a, b, c, e)

pub blocks_are_few : (prebuilt : ℕ) (heap : Heap) (blocks : List (Option Block)) (own : ℕ → List ℕ) (kept : ℕ → List Value) (rank : ℕ → ℕ) → Represents prebuilt heap blocks own kept rank → (roots : List Value) (holds : List Meant) → RootsStand blocks own roots holds → FewBlocks prebuilt heap blocks roots holds
blocks_are_few prebuilt heap blocks own kept rank r roots holds s objects each bs d k = few_blocks prebuilt heap blocks own kept rank r roots holds s.values s.stand s.among objects each bs d k
