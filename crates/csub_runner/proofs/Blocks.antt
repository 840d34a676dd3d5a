-- The list of the blocks by number, after one entry was put in or taken out.
use Rattle.std.proofs.Common.{◌≡◌, ◌≢◌, ◌⊎◌, inl, inr, ℕ, ◌+◌, ◌<◌, ◌≤◌, ◌==◌, Bool, true, false, cond, List, [], ◌∷◌, ◌++◌, length, zero, suc, get_or, set, replicate, refl, sym, ap, ◌∙◌, Some, None, arith, subst}
use Rattle.std.specs.Prelude.{Option, option_map, IsSome, is_some}
use Rattle.std.specs.List.{All}
use Rattle.std.proofs.lemmas.List.Elements.{All-head, All-tail}
use Rattle.std.proofs.lemmas.Bool.Decides.{nat_tests}
use Rattle.slab.specs.Slab.{get, Updates}
use Rattle.csub_tree.specs.State.{Unset, Block}
use Rattle.csub_tree.specs.Statement.{read}
use Rattle.csub_runner.specs.Erased.{erase, erase_all, erase_cells}
use Rattle.csub_runner.specs.declared.heap.Heap.{Heap}
use Rattle.csub_runner.specs.declared.heap.Entry.{Entry}
use Rattle.csub_runner.specs.declared.val.Cells.{Cells}
use Rattle.csub_runner.specs.declared.val.Ptr.{Ptr}
use Rattle.csub_runner.specs.declared.val.Val.{Val}
use Rattle.csub_runner.specs.declared.val.Val.TheVariants.{Unset as RawUnset}
use Rattle.csub_runner.specs.Heap.{StandsAt, IsSound, PtrOk, ValOk, CellsOk, blocks_of, find, table, with_field, with_item}
use Rattle.csub_runner.proofs.Stands.{same_some, put_old, put_cases, gone_old, gone_new, written, written_at, written_new, written_old, written_sound}

-- tables
module _ {X : Type 0} where
  pub table_zero : (f : ℕ → X) (i : ℕ) → table f i zero ≡ []
  unfolding table
  table_zero f i = refl

  table_suc : (f : ℕ → X) (i m : ℕ) → table f i (suc m) ≡ f i ∷ table f (i + 1) m
  unfolding table
  table_suc f i m = refl

  pub table_get : (f : ℕ → X) (i m k : ℕ) (d : X) → k < m → get_or (table f i m) k d ≡ f (i + k)
  table_get f i zero k d lt = absurd (omega (arith, lt))
  table_get f i (suc m) zero d lt = ap (λ xs. get_or xs zero d) (table_suc f i m) ∙ ap f (omega arith)
  table_get f i (suc m) (suc k) d lt = ap (λ xs. get_or xs (suc k) d) (table_suc f i m) ∙ table_get f (i + 1) m k d (omega (arith, lt)) ∙ ap f (omega arith)

  pub table_length : (f : ℕ → X) (i m : ℕ) → length (table f i m) ≡ m
  table_length f i zero = ap length (table_zero f i)
  table_length f i (suc m) = let h = table_length f (i + 1) m in let e : length (f i ∷ table f (i + 1) m) ≡ suc m = omega (arith, h) in ap length (table_suc f i m) ∙ e

  pub table_same : (f g : ℕ → X) (i m : ℕ) → ((j : ℕ) → i ≤ j → j < i + m → g j ≡ f j) → table g i m ≡ table f i m
  table_same f g i zero h = table_zero g i ∙ sym (table_zero f i)
  table_same f g i (suc m) h =
      table_suc g i m ∙ ap (λ x. x ∷ table g (i + 1) m) (h i (omega arith) (omega arith))
      ∙ ap (λ xs. f i ∷ xs) (table_same f g (i + 1) m (λ j low high. h j (omega (arith, low)) (omega (arith, high)))) ∙ sym (table_suc f i m)

  pub table_set : (f g : ℕ → X) (i m k : ℕ) (v : X) → k < m → g (i + k) ≡ v → ((j : ℕ) → j ≢ i + k → g j ≡ f j) → table g i m ≡ set (table f i m) k v
  table_set f g i zero k v lt is others = absurd (omega (arith, lt))
  table_set f g i (suc m) zero v lt is others =
      table_suc g i m ∙ ap (λ x. x ∷ table g (i + 1) m) (ap g (omega arith) ∙ is)
      ∙ ap (λ xs. v ∷ xs) (table_same f g (i + 1) m (λ j low high. others j (λ same. absurd (omega (arith, low, same)))))
      ∙ ap (λ xs. set xs zero v) (sym (table_suc f i m))
  table_set f g i (suc m) (suc k) v lt is others =
      table_suc g i m ∙ ap (λ x. x ∷ table g (i + 1) m) (others i (λ same. absurd (omega (arith, same))))
      ∙ ap (λ xs. f i ∷ xs) (table_set f g (i + 1) m k v (omega (arith, lt)) (ap g (omega arith) ∙ is) (λ j other. others j (λ same. other (omega (arith, same)))))
      ∙ ap (λ xs. set xs (suc k) v) (sym (table_suc f i m))

  pub table_more : (f : ℕ → X) (i m : ℕ) → table f i (m + 1) ≡ table f i m ++ f (i + m) ∷ []
  table_more f i zero = table_suc f i zero ∙ ap (λ xs. f i ∷ xs) (table_zero f (i + 1)) ∙ ap (λ j. f j ∷ []) (omega arith) ∙ ap (λ xs. xs ++ f (i + zero) ∷ []) (sym (table_zero f i))
  table_more f i (suc m) =
      let e : suc m + 1 ≡ suc (m + 1) = omega arith in
      ap (table f i) e ∙ table_suc f i (m + 1) ∙ ap (λ xs. f i ∷ xs) (table_more f (i + 1) m) ∙ ap (λ j. f i ∷ (table f (i + 1) m ++ f j ∷ [])) (omega arith)
      ∙ ap (λ xs. xs ++ f (i + suc m) ∷ []) (sym (table_suc f i m))

-- find
find_nil : (n : ℕ) → find n [] ≡ None
unfolding find
find_nil n = refl

find_none : (n : ℕ) (slots : List (Option Entry)) → find n (None ∷ slots) ≡ find n slots
unfolding find
find_none n slots = refl

find_some : (n : ℕ) (entry : Entry) (slots : List (Option Entry)) → find n (Some entry ∷ slots) ≡ cond (entry.number == n) (Some (erase_cells entry.cells)) (find n slots)
unfolding find
find_some n entry slots = refl

abbrev Where : ℕ → List (Option Entry) → Block → Type 0
Where n slots c = (k : ℕ) × (e : Entry) × (get_or slots k None ≡ Some e) × (e.number ≡ n) × (erase_cells e.cells ≡ c)

find_where_by : (n : ℕ) (entry : Entry) (slots : List (Option Entry)) (c : Block) (t : Bool) → (entry.number == n) ≡ t → (find n slots ≡ Some c → Where n slots c)
    → cond t (Some (erase_cells entry.cells)) (find n slots) ≡ Some c → Where n (Some entry ∷ slots) c
find_where_by n entry slots c true is rest e = (zero, entry, refl, (grind (arith, nat_tests)), same_some e)
find_where_by n entry slots c false is rest e = let r = rest e in (suc r.0, r.1, r.2, r.3, r.4)

find_where : (n : ℕ) (slots : List (Option Entry)) (c : Block) → find n slots ≡ Some c → Where n slots c
find_where n [] c e = let z = find_nil n in absurd (cc)
find_where n (None ∷ slots) c e = let r = find_where n slots c (sym (find_none n slots) ∙ e) in (suc r.0, r.1, r.2, r.3, r.4)
find_where n (Some entry ∷ slots) c e = find_where_by n entry slots c (entry.number == n) refl (find_where n slots c) (sym (find_some n entry slots) ∙ e)

abbrev Found : Option Block → Type 0
Found o = (c : Block) × (o ≡ Some c)

find_there_by : (n : ℕ) (entry : Entry) (rest : Option Block) (t : Bool) → (t ≡ true) ⊎ Found rest → Found (cond t (Some (erase_cells entry.cells)) rest)
find_there_by n entry rest true h = (erase_cells entry.cells, refl)
find_there_by n entry rest false (inl e) = absurd (cc)
find_there_by n entry rest false (inr f) = f

find_there : (n : ℕ) (slots : List (Option Entry)) (k : ℕ) (e : Entry) → get_or slots k None ≡ Some e → e.number ≡ n → Found (find n slots)
find_there n [] k e h is = absurd (cc)
find_there n (None ∷ slots) zero e h is = absurd (cc)
find_there n (None ∷ slots) (suc k) e h is = let r = find_there n slots k e h is in (r.0, find_none n slots ∙ r.1)
find_there n (Some entry ∷ slots) zero e h is =
    let same : entry ≡ e = same_some h in
    let number : entry.number ≡ n = ap (λ x. x.number) same ∙ is in
    subst Found (sym (find_some n entry slots)) (find_there_by n entry (find n slots) (entry.number == n) (inl (grind (arith, nat_tests))))
find_there n (Some entry ∷ slots) (suc k) e h is = subst Found (sym (find_some n entry slots)) (find_there_by n entry (find n slots) (entry.number == n) (inr (find_there n slots k e h is)))

option_same : {X : Type 0} (a b : Option X) → ((c : X) → a ≡ Some c → b ≡ Some c) → ((c : X) → b ≡ Some c → a ≡ Some c) → a ≡ b
option_same None None f g = refl
option_same None (Some b) f g = g b refl
option_same (Some a) b f g = sym (f a refl)

none_by : {X : Type 0} (a : Option X) → ((c : X) → a ≡ Some c → ⊥) → a ≡ None
none_by None f = refl
none_by (Some a) f = absurd (f a refl)

-- a block that stands is found
pub finds : (heap : Heap) → IsSound heap → (k n : ℕ) (e : Entry) → StandsAt heap k n e → find n heap.slots.slots ≡ Some (erase_cells e.cells)
finds heap sound k n e s =
    let f = find_there n heap.slots.slots k e s.there s.has in
    let w = find_where n heap.slots.slots f.0 f.1 in
    let key : w.0 ≡ k = sound.once w.0 k n w.1 e (record { there = w.2; has = w.3 }) s in
    let same : w.1 ≡ e = same_some (sym w.2 ∙ ap (get heap.slots) key ∙ s.there) in
    f.1 ∙ ap Some (sym w.4 ∙ ap (λ x. erase_cells x.cells) same)

pub finds_none : (heap : Heap) (n : ℕ) → ((k : ℕ) (e : Entry) → StandsAt heap k n e → ⊥) → find n heap.slots.slots ≡ None
finds_none heap n h = none_by (find n heap.slots.slots) (λ c e. let w = find_where n heap.slots.slots c e in h w.0 w.1 (record { there = w.2; has = w.3 }))

pub finds_same : (old new : Heap) → IsSound old → IsSound new → (n : ℕ) → ((k : ℕ) (e : Entry) → StandsAt old k n e → StandsAt new k n e) → ((k : ℕ) (e : Entry) → StandsAt new k n e → StandsAt old k n e)
    → find n new.slots.slots ≡ find n old.slots.slots
finds_same old new old_sound new_sound n f g = option_same (find n new.slots.slots) (find n old.slots.slots)
    (λ c e. let w = find_where n new.slots.slots c e in finds old old_sound w.0 n w.1 (g w.0 w.1 (record { there = w.2; has = w.3 })) ∙ ap Some w.4)
    (λ c e. let w = find_where n old.slots.slots c e in finds new new_sound w.0 n w.1 (f w.0 w.1 (record { there = w.2; has = w.3 })) ∙ ap Some w.4)

pub blocks_at : (heap : Heap) (n : ℕ) → n < heap.made → get_or (blocks_of heap) n None ≡ find n heap.slots.slots
blocks_at heap n lt =
    let e : 0 + n ≡ n = omega arith in
    table_get (λ j. find j heap.slots.slots) 0 heap.made n None lt ∙ ap (λ j. find j heap.slots.slots) e

pub read_erased : (vs : List Val) (k : ℕ) → erase (get_or vs k RawUnset) ≡ read (erase_all vs) k
read_erased [] k = refl
read_erased (v ∷ vs) zero = refl
read_erased (v ∷ vs) (suc k) = read_erased vs k

pub vals_at : (heap : Heap) (vs : List Val) (k : ℕ) → All (ValOk heap) vs → ValOk heap (get_or vs k RawUnset)
vals_at heap [] k ok = tt
vals_at heap (v ∷ vs) zero ok = All-head (ValOk heap) v vs ok
vals_at heap (v ∷ vs) (suc k) ok = vals_at heap vs k (All-tail (ValOk heap) v vs ok)

-- reading through a pointer
module _ (heap : Heap) (ptr : Ptr) (sound : IsSound heap) (ok : PtrOk heap ptr) where
  pub block_is : (e : Entry) → get heap.slots ptr.key ≡ Some e → e.number ≡ ptr.number → ◌≡◌ {A = Option Block} (Some (erase_cells e.cells)) (get_or (blocks_of heap) ptr.number None)
  block_is e there has = sym (blocks_at heap ptr.number ok.made ∙ finds heap sound ptr.key ptr.number e (record { there = there; has = has }))

  pub gone_is : ((e : Entry) → get heap.slots ptr.key ≡ Some e → e.number ≢ ptr.number) → get_or (blocks_of heap) ptr.number None ≡ None
  gone_is h = blocks_at heap ptr.number ok.made ∙ finds_none heap ptr.number (λ k e s. h e (ap (get heap.slots) (sym (ok.stands k e s)) ∙ s.there) s.has)

  pub live_is : (e : Entry) → get heap.slots ptr.key ≡ Some e → e.number ≡ ptr.number → IsSome (get_or (blocks_of heap) ptr.number None)
  live_is e there has = ap is_some (blocks_at heap ptr.number ok.made ∙ finds heap sound ptr.key ptr.number e (record { there = there; has = has }))

pub put_blocks : (old new : Heap) (key : ℕ) (entry : Entry) → Updates old.slots new.slots key (Some entry) → get old.slots key ≡ None → IsSound old → IsSound new
    → entry.number ≡ old.made → new.made ≡ old.made + 1 → blocks_of new ≡ blocks_of old ++ Some (erase_cells entry.cells) ∷ []
put_blocks old new key entry put vacant sound new_sound number made =
    let e : 0 + old.made ≡ old.made = omega arith in
    ap (table (λ n. find n new.slots.slots) 0) made ∙ table_more (λ n. find n new.slots.slots) 0 old.made
    ∙ ap (λ x. table (λ n. find n new.slots.slots) 0 old.made ++ x ∷ []) (ap (λ n. find n new.slots.slots) e ∙ finds new new_sound key old.made entry (record { there = put.changed; has = number }))
    ∙ ap (λ xs. xs ++ Some (erase_cells entry.cells) ∷ []) (table_same (λ n. find n old.slots.slots) (λ n. find n new.slots.slots) 0 old.made (λ j low high.
    finds_same old new sound new_sound j (λ k e s. put_old old new key entry put vacant k j e s)
    (λ k e s. elim (put_cases old new key entry put vacant k j e s) [
      | inl p ↦ absurd (let same : j ≡ entry.number = sym s.has ∙ ap (λ x. x.number) p.1 in omega (arith, same, number, high))
      | inr o ↦ o
    ])))

pub free_blocks : (old new : Heap) (ptr : Ptr) (e : Entry) → Updates old.slots new.slots ptr.key None → IsSound old → IsSound new → PtrOk old ptr → get old.slots ptr.key ≡ Some e → e.number ≡ ptr.number
    → new.made ≡ old.made → blocks_of new ≡ set (blocks_of old) ptr.number None
free_blocks old new ptr e gone sound new_sound ok there has made =
    let zero_is : 0 + ptr.number ≡ ptr.number = omega arith in
    ap (table (λ n. find n new.slots.slots) 0) made
    ∙ table_set (λ n. find n old.slots.slots) (λ n. find n new.slots.slots) 0 old.made ptr.number None ok.made
    (ap (λ n. find n new.slots.slots) zero_is ∙ finds_none new ptr.number (λ k f s. let o = gone_old old new ptr.key gone k ptr.number f s in o.0 (ok.stands k f o.1)))
    (λ j other. finds_same old new sound new_sound j
    (λ k f s. gone_new old new ptr.key gone k j f (λ same. other (sym s.has ∙ ap (λ x. x.number) (same_some (sym s.there ∙ ap (get old.slots) same ∙ there)) ∙ has ∙ sym zero_is)) s)
    (λ k f s. (gone_old old new ptr.key gone k j f s).1))

pub erased_unset : (n : ℕ) → erase_all (replicate n RawUnset) ≡ replicate n Unset
erased_unset zero = refl
erased_unset (suc n) = ap (λ vs. Unset ∷ vs) (erased_unset n)

pub erased_set : (vs : List Val) (k : ℕ) (v : Val) → erase_all (set vs k v) ≡ set (erase_all vs) k (erase v)
erased_set [] k v = refl
erased_set (x ∷ vs) zero v = refl
erased_set (x ∷ vs) (suc k) v = ap (λ ys. erase x ∷ ys) (erased_set vs k v)

set_same : {X : Type 0} (xs : List X) (k : ℕ) (d : X) → set xs k (get_or xs k d) ≡ xs
set_same [] k d = refl
set_same (x ∷ xs) zero d = refl
set_same (x ∷ xs) (suc k) d = ap (λ ys. x ∷ ys) (set_same xs k d)

module _ (heap : Heap) (ptr : Ptr) (sound : IsSound heap) (ok : PtrOk heap ptr) (was now : Entry) (there : get heap.slots ptr.key ≡ Some was) (has : was.number ≡ ptr.number) (number : now.number ≡ was.number)
    (fine : CellsOk heap now.cells) where
  written_blocks : blocks_of (written heap ptr.key now) ≡ set (blocks_of heap) ptr.number (Some (erase_cells now.cells))
  written_blocks =
      let zero_is : 0 + ptr.number ≡ ptr.number = omega arith in
      let new_sound = written_sound heap ptr.key was now there number fine sound in
      table_set (λ n. find n heap.slots.slots) (λ n. find n (written heap ptr.key now).slots.slots) 0 heap.made ptr.number (Some (erase_cells now.cells)) ok.made
      (ap (λ n. find n (written heap ptr.key now).slots.slots) zero_is
      ∙ finds (written heap ptr.key now) new_sound ptr.key ptr.number now (record { there = written_at heap ptr.key was now there number; has = number ∙ has }))
      (λ j other. finds_same heap (written heap ptr.key now) sound new_sound j
      (λ k f s. written_new heap ptr.key was now there number k j f (λ same. other (sym s.has ∙ ap (λ x. x.number) (same_some (sym s.there ∙ ap (get heap.slots) same ∙ there)) ∙ has ∙ sym zero_is)) s)
      (λ k f s. elim (written_old heap ptr.key was now there number k j f s) [
        | inl p ↦ absurd (other (sym p.2.has ∙ has ∙ sym zero_is))
        | inr q ↦ q.1
      ]))

  stood : get_or (blocks_of heap) ptr.number None ≡ Some (erase_cells was.cells)
  stood = blocks_at heap ptr.number ok.made ∙ finds heap sound ptr.key ptr.number was (record { there = there; has = has })

  pub writes_is : (f : Block → Block) → erase_cells now.cells ≡ f (erase_cells was.cells)
      → blocks_of (written heap ptr.key now) ≡ set (blocks_of heap) ptr.number (option_map f (get_or (blocks_of heap) ptr.number None))
  writes_is f e = written_blocks ∙ ap (λ b. set (blocks_of heap) ptr.number (Some b)) e ∙ ap (λ o. set (blocks_of heap) ptr.number (option_map f o)) (sym stood)

-- nothing is written where the block is gone
pub gone_same : (f : Block → Block) (blocks : List (Option Block)) (n : ℕ) → get_or blocks n None ≡ None → blocks ≡ set blocks n (option_map f (get_or blocks n None))
gone_same f blocks n e = sym (set_same blocks n None) ∙ ap (set blocks n) (e ∙ ap (option_map f) (sym e))

pub made_cells : (cells : Cells) (n m : ℕ) → cells.fields.items ≡ replicate n RawUnset → cells.elements.items ≡ replicate m RawUnset
    → erase_cells cells ≡ record { kind = cells.kind; fields = replicate n Unset; items = replicate m Unset }
made_cells cells n m e f =
    ap (λ vs. record { kind = cells.kind; fields = vs; items = erase_all cells.elements.items }) (ap erase_all e ∙ erased_unset n)
    ∙ ap (λ vs. record { kind = cells.kind; fields = replicate n Unset; items = vs }) (ap erase_all f ∙ erased_unset m)

pub field_is : (was now : Cells) (at : ℕ) (v : Val) → now.kind ≡ was.kind → now.elements ≡ was.elements → now.fields.items ≡ set was.fields.items at v → erase_cells now ≡ with_field at (erase v) (erase_cells was)
field_is was now at v kind rest is =
    ap (λ k. record { kind = k; fields = erase_all now.fields.items; items = erase_all now.elements.items }) kind
    ∙ ap (λ x. record { kind = was.kind; fields = erase_all now.fields.items; items = erase_all x.items }) rest
    ∙ ap (λ vs. record { kind = was.kind; fields = vs; items = erase_all was.elements.items }) (ap erase_all is ∙ erased_set was.fields.items at v)

pub item_is : (was now : Cells) (at : ℕ) (v : Val) → now.kind ≡ was.kind → now.fields ≡ was.fields → now.elements.items ≡ set was.elements.items at v → erase_cells now ≡ with_item at (erase v) (erase_cells was)
item_is was now at v kind rest is =
    ap (λ k. record { kind = k; fields = erase_all now.fields.items; items = erase_all now.elements.items }) kind
    ∙ ap (λ x. record { kind = was.kind; fields = erase_all x.items; items = erase_all now.elements.items }) rest
    ∙ ap (λ vs. record { kind = was.kind; fields = erase_all was.fields.items; items = vs }) (ap erase_all is ∙ erased_set was.elements.items at v)
