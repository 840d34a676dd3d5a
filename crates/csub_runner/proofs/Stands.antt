-- What stands in the slab after one entry was put in or taken out.
use Rattle.std.proofs.Common.{◌≡◌, ◌≢◌, ◌⊎◌, inl, inr, ℕ, ◌+◌, ◌<◌, ◌==◌, Bool, true, false, List, refl, sym, ap, ◌∙◌, Some, None, arith, subst}
use Rattle.std.specs.Prelude.{Option}
use Rattle.std.specs.List.{All}
use Rattle.std.proofs.lemmas.Bool.Decides.{nat_tests}
use Rattle.std.proofs.Common.{[], ◌∷◌, length, zero, suc, get_or, set, replicate}
use Rattle.std.proofs.lemmas.List.{get_or-set_same, get_or-set_other}
use Rattle.std.proofs.lemmas.List.Elements.{All-weaker, All-same, All-replicate, All-set}
use Rattle.slab.specs.Slab.{get, Updates, with_value}
use Rattle.csub_runner.specs.declared.heap.Heap.{Heap}
use Rattle.csub_runner.specs.declared.heap.Entry.{Entry}
use Rattle.csub_runner.specs.declared.val.Cells.{Cells}
use Rattle.csub_runner.specs.declared.val.Ptr.{Ptr}
use Rattle.csub_runner.specs.declared.val.Val.{Val}
use Rattle.csub_runner.specs.declared.val.Val.TheVariants.{Unset as RawUnset, Word as RawWord, Byte as RawByte, Flag as RawFlag, Fun as RawFun, Null as RawNull, Ptr as RawPtr, Static as RawStatic}
use Rattle.csub_runner.specs.Heap.{StandsAt, IsSound, PtrOk, ValOk, CellsOk, IsLive}

which_by : (a b : ℕ) (t : Bool) → (a == b) ≡ t → (a ≡ b) ⊎ (a ≢ b)
which_by a b true e = inl (grind (arith, nat_tests))
which_by a b false e = inr (λ same. grind (arith, nat_tests))

pub which : (a b : ℕ) → (a ≡ b) ⊎ (a ≢ b)
which a b = which_by a b (a == b) refl

pub same_some : {X : Type 0} {a b : X} → ◌≡◌ {A = Option X} (Some a) (Some b) → a ≡ b
same_some e = cc

-- what keeps pointers ok keeps values ok
pub val_kept : (old new : Heap) → ((p : Ptr) → PtrOk old p → PtrOk new p) → (v : Val) → ValOk old v → ValOk new v
val_kept old new kept RawUnset ok = tt
val_kept old new kept (RawWord n) ok = tt
val_kept old new kept (RawPtr p) ok = kept p ok
val_kept old new kept (RawByte n) ok = tt
val_kept old new kept (RawFlag n) ok = tt
val_kept old new kept (RawFun n) ok = tt
val_kept old new kept (RawStatic n) ok = tt
val_kept old new kept RawNull ok = tt

pub vals_kept : (old new : Heap) → ((p : Ptr) → PtrOk old p → PtrOk new p) → (vs : List Val) → All (ValOk old) vs → All (ValOk new) vs
vals_kept old new kept vs ok = All-weaker (ValOk old) (ValOk new) (val_kept old new kept) vs ok

pub cells_kept : (old new : Heap) → ((p : Ptr) → PtrOk old p → PtrOk new p) → (c : Cells) → CellsOk old c → CellsOk new c
cells_kept old new kept c ok = record { fields = vals_kept old new kept c.fields.items ok.fields; elements = vals_kept old new kept c.elements.items ok.elements }

-- an entry was put in at a vacant key
module _ (old new : Heap) (key : ℕ) (entry : Entry) (put : Updates old.slots new.slots key (Some entry)) (vacant : get old.slots key ≡ None) where
  pub put_old : (k n : ℕ) (e : Entry) → StandsAt old k n e → StandsAt new k n e
  put_old k n e s = record { there = put.others k (λ same. let h : get old.slots key ≡ Some e = subst (λ j. get old.slots j ≡ Some e) same s.there in cc) ∙ s.there; has = s.has }

  pub put_cases : (k n : ℕ) (e : Entry) → StandsAt new k n e → ((k ≡ key) × (e ≡ entry)) ⊎ StandsAt old k n e
  put_cases k n e s = elim (which k key) [
    | inl same ↦ inl (same, same_some (sym s.there ∙ ap (get new.slots) same ∙ put.changed))
    | inr other ↦ inr (record { there = sym (put.others k other) ∙ s.there; has = s.has })
  ]

  module _ (sound : IsSound old) (number : entry.number ≡ old.made) (made : new.made ≡ old.made + 1) where
    -- the new number stands at no other key
    pub not_old : (k n : ℕ) (e : Entry) → StandsAt old k n e → n ≡ entry.number → ⊥
    not_old k n e s same = let below = sound.below k n e s in omega (arith, below, same, number)

    once_by : (k j n : ℕ) (e f : Entry) → StandsAt new k n e → StandsAt new j n f → ((k ≡ key) × (e ≡ entry)) ⊎ StandsAt old k n e → ((j ≡ key) × (f ≡ entry)) ⊎ StandsAt old j n f → k ≡ j
    once_by k j n e f a b (inl p) (inl q) = p.0 ∙ sym q.0
    once_by k j n e f a b (inl p) (inr q) = absurd (not_old j n f q (sym a.has ∙ ap (λ x. x.number) p.1))
    once_by k j n e f a b (inr p) (inl q) = absurd (not_old k n e p (sym b.has ∙ ap (λ x. x.number) q.1))
    once_by k j n e f a b (inr p) (inr q) = sound.once k j n e f p q

    below_by : (k n : ℕ) (e : Entry) → StandsAt new k n e → ((k ≡ key) × (e ≡ entry)) ⊎ StandsAt old k n e → n < new.made
    below_by k n e a (inl p) = let same : n ≡ entry.number = sym a.has ∙ ap (λ x. x.number) p.1 in omega (arith, same, number, made)
    below_by k n e a (inr p) = let below = sound.below k n e p in omega (arith, below, made)

    kept_by : (p : Ptr) → PtrOk old p → (k : ℕ) (e : Entry) → StandsAt new k p.number e → ((k ≡ key) × (e ≡ entry)) ⊎ StandsAt old k p.number e → k ≡ p.key
    kept_by p ok k e a (inl q) = let below = ok.made in let same : p.number ≡ entry.number = sym a.has ∙ ap (λ x. x.number) q.1 in absurd (omega (arith, below, same, number))
    kept_by p ok k e a (inr q) = ok.stands k e q

    pub put_kept : (p : Ptr) → PtrOk old p → PtrOk new p
    put_kept p ok = record { made = let below = ok.made in omega (arith, below, made); stands = λ k e a. kept_by p ok k e a (put_cases k p.number e a) }

    module _ (fine : CellsOk new entry.cells) where
      cells_by : (k n : ℕ) (e : Entry) → ((k ≡ key) × (e ≡ entry)) ⊎ StandsAt old k n e → CellsOk new e.cells
      cells_by k n e (inl p) = subst (λ x. CellsOk new x.cells) (sym p.1) fine
      cells_by k n e (inr p) = cells_kept old new put_kept e.cells (sound.cells k n e p)

      pub put_sound : IsSound new
      put_sound = record { once = λ k j n e f a b. once_by k j n e f a b (put_cases k n e a) (put_cases j n f b); below = λ k n e a. below_by k n e a (put_cases k n e a); cells = λ k n e a. cells_by k n e (put_cases k n e a) }

    pub make_sound : (n m : ℕ) → entry.cells.fields.items ≡ replicate n RawUnset → entry.cells.elements.items ≡ replicate m RawUnset → IsSound new
    make_sound n m e f = put_sound (record {
      fields = All-same (ValOk new) entry.cells.fields.items (replicate n RawUnset) e (All-replicate (ValOk new) n RawUnset tt);
      elements = All-same (ValOk new) entry.cells.elements.items (replicate m RawUnset) f (All-replicate (ValOk new) m RawUnset tt);
    })

    ptr_by : (k : ℕ) (e : Entry) → StandsAt new k old.made e → ((k ≡ key) × (e ≡ entry)) ⊎ StandsAt old k old.made e → k ≡ key
    ptr_by k e a (inl p) = p.0
    ptr_by k e a (inr p) = absurd (not_old k old.made e p (sym number))

    pub put_ptr : PtrOk new (record { key = key; number = old.made })
    put_ptr = record { made = omega (arith, made); stands = λ k e a. ptr_by k e a (put_cases k old.made e a) }

-- an entry was taken out
module _ (old new : Heap) (key : ℕ) (gone : Updates old.slots new.slots key None) where
  pub gone_old : (k n : ℕ) (e : Entry) → StandsAt new k n e → (k ≢ key) × StandsAt old k n e
  gone_old k n e s = elim (which k key) [
    | inl same ↦ absurd (let h : get new.slots key ≡ Some e = subst (λ j. get new.slots j ≡ Some e) same s.there in let g = gone.changed in cc)
    | inr other ↦ (other, record { there = sym (gone.others k other) ∙ s.there; has = s.has })
  ]

  pub gone_new : (k n : ℕ) (e : Entry) → k ≢ key → StandsAt old k n e → StandsAt new k n e
  gone_new k n e other s = record { there = gone.others k other ∙ s.there; has = s.has }

  module _ (made : new.made ≡ old.made) where
    pub gone_kept : (p : Ptr) → PtrOk old p → PtrOk new p
    gone_kept p ok = record { made = let below = ok.made in omega (arith, below, made); stands = λ k e a. ok.stands k e (gone_old k p.number e a).1 }

    pub gone_sound : IsSound old → IsSound new
    gone_sound sound = record {
      once = λ k j n e f a b. sound.once k j n e f (gone_old k n e a).1 (gone_old j n f b).1;
      below = λ k n e a. let below = sound.below k n e (gone_old k n e a).1 in omega (arith, below, made);
      cells = λ k n e a. cells_kept old new gone_kept e.cells (sound.cells k n e (gone_old k n e a).1);
    }

-- the same values at all keys
module _ (old new : Heap) (same : (k : ℕ) → get new.slots k ≡ get old.slots k) (made : new.made ≡ old.made) where
  back : (k n : ℕ) (e : Entry) → StandsAt new k n e → StandsAt old k n e
  back k n e s = record { there = sym (same k) ∙ s.there; has = s.has }

  pub same_kept : (p : Ptr) → PtrOk old p → PtrOk new p
  same_kept p ok = record { made = let below = ok.made in omega (arith, below, made); stands = λ k e a. ok.stands k e (back k p.number e a) }

  pub same_sound : IsSound old → IsSound new
  same_sound sound = record {
    once = λ k j n e f a b. sound.once k j n e f (back k n e a) (back j n f b);
    below = λ k n e a. let below = sound.below k n e (back k n e a) in omega (arith, below, made);
    cells = λ k n e a. cells_kept old new same_kept e.cells (sound.cells k n e (back k n e a));
  }

pub live_by : (heap : Heap) (ptr : Ptr) (e : Entry) → get heap.slots ptr.key ≡ Some e → (t : Bool) → (e.number == ptr.number) ≡ t → IsLive t heap ptr
live_by heap ptr e there true is = (e, record { there = there; has = grind (arith, nat_tests) })
live_by heap ptr e there false is = λ f s.
    let same : e ≡ f = same_some (sym there ∙ s.there) in
    let number : e.number ≡ ptr.number = ap (λ x. x.number) same ∙ s.has in
    grind (arith, nat_tests)

inside_of : (slots : List (Option Entry)) (key : ℕ) (e : Entry) → get_or slots key None ≡ Some e → key < length slots
inside_of [] key e h = absurd (cc)
inside_of (s ∷ slots) zero e h = omega arith
inside_of (s ∷ slots) (suc key) e h = omega (arith, inside_of slots key e h)

abbrev pub written : Heap → ℕ → Entry → Heap
written heap key entry = record { slots = with_value heap.slots key entry; made = heap.made }

-- an entry was written over one of the same number
module _ (heap : Heap) (key : ℕ) (was now : Entry) (there : get heap.slots key ≡ Some was) (number : now.number ≡ was.number) where
  pub written_at : get (written heap key now).slots key ≡ Some now
  written_at = get_or-set_same heap.slots.slots key (Some now) None (inside_of heap.slots.slots key was there)

  others : (k : ℕ) → k ≢ key → get (written heap key now).slots k ≡ get heap.slots k
  others k other = get_or-set_other heap.slots.slots key k (Some now) None other

  pub written_new : (k n : ℕ) (e : Entry) → k ≢ key → StandsAt heap k n e → StandsAt (written heap key now) k n e
  written_new k n e other s = record { there = others k other ∙ s.there; has = s.has }

  pub written_old : (k n : ℕ) (e : Entry) → StandsAt (written heap key now) k n e → ((k ≡ key) × (e ≡ now) × StandsAt heap key n was) ⊎ ((k ≢ key) × StandsAt heap k n e)
  written_old k n e s = elim (which k key) [
    | inl same ↦ (let is : now ≡ e = same_some (sym written_at ∙ ap (get (written heap key now).slots) (sym same) ∙ s.there) in
        inl (same, sym is, record { there = there; has = sym number ∙ ap (λ x. x.number) is ∙ s.has }))
    | inr other ↦ inr (other, record { there = sym (others k other) ∙ s.there; has = s.has })
  ]

  back_by : (k n : ℕ) (e : Entry) → ((k ≡ key) × (e ≡ now) × StandsAt heap key n was) ⊎ ((k ≢ key) × StandsAt heap k n e) → (f : Entry) × StandsAt heap k n f
  back_by k n e (inl p) = (was, subst (λ j. StandsAt heap j n was) (sym p.0) p.2)
  back_by k n e (inr p) = (e, p.1)

  back_at : (k n : ℕ) (e : Entry) → StandsAt (written heap key now) k n e → (f : Entry) × StandsAt heap k n f
  back_at k n e s = back_by k n e (written_old k n e s)

  pub written_kept : (p : Ptr) → PtrOk heap p → PtrOk (written heap key now) p
  written_kept p ok = record { made = ok.made; stands = λ k e a. let x = back_at k p.number e a in ok.stands k x.0 x.1 }

  module _ (fine : CellsOk heap now.cells) where
    written_cells : IsSound heap → (k n : ℕ) (e : Entry) → ((k ≡ key) × (e ≡ now) × StandsAt heap key n was) ⊎ ((k ≢ key) × StandsAt heap k n e) → CellsOk (written heap key now) e.cells
    written_cells sound k n e (inl p) = cells_kept heap (written heap key now) written_kept e.cells (subst (λ x. CellsOk heap x.cells) (sym p.1) fine)
    written_cells sound k n e (inr p) = cells_kept heap (written heap key now) written_kept e.cells (sound.cells k n e p.1)

    pub written_sound : IsSound heap → IsSound (written heap key now)
    written_sound sound = record {
      once = λ k j n e f a b. let x = back_at k n e a in let y = back_at j n f b in sound.once k j n x.0 y.0 x.1 y.1;
      below = λ k n e a. let x = back_at k n e a in sound.below k n x.0 x.1;
      cells = λ k n e a. written_cells sound k n e (written_old k n e a);
    }

-- a value was written into a field, or into an item
pub field_ok : (heap : Heap) (was now : Cells) (at : ℕ) (v : Val) → now.kind ≡ was.kind → now.elements ≡ was.elements → now.fields.items ≡ set was.fields.items at v → ValOk heap v → CellsOk heap was → CellsOk heap now
field_ok heap was now at v kind rest is v_ok ok = record {
  fields = All-same (ValOk heap) now.fields.items (set was.fields.items at v) is (All-set (ValOk heap) was.fields.items at v v_ok ok.fields);
  elements = subst (λ x. All (ValOk heap) x.items) (sym rest) ok.elements;
}

pub item_ok : (heap : Heap) (was now : Cells) (at : ℕ) (v : Val) → now.kind ≡ was.kind → now.fields ≡ was.fields → now.elements.items ≡ set was.elements.items at v → ValOk heap v → CellsOk heap was → CellsOk heap now
item_ok heap was now at v kind rest is v_ok ok = record {
  fields = subst (λ x. All (ValOk heap) x.items) (sym rest) ok.fields;
  elements = All-same (ValOk heap) now.elements.items (set was.elements.items at v) is (All-set (ValOk heap) was.elements.items at v v_ok ok.elements);
}
