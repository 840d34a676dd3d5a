-- The constants of statics that wait to be read.
use Rattle.std.proofs.Common.{◌≡◌, ℕ, ◌+◌, ◌++◌, ◌<◌, ◌≤◌, List, [], ◌∷◌, length, zero, suc, take, drop, map, get_or, refl, sym, ap, ◌∙◌, append_assoc, Bor, arith}
use Rattle.std.specs.Prelude.{sum_by}
use Rattle.std.specs.List.{All}
use Rattle.std.proofs.lemmas.List.{append-nil, map-append}
use Rattle.std.proofs.lemmas.List.Elements.{All-same, All-map, All-take, All-drop}
use Rattle.csub_tree.specs.Layout.{cell_constants, joined, constant}
use Rattle.csub_tree.specs.declared.tree.CConst.{CConst}
use Rattle.csub_tree.specs.declared.tree.CCell.{CCell}
use Rattle.csub_runner.specs.Erased.{erase, erase_all, erase_cells, raw_constant}
use Rattle.csub_runner.specs.Heap.{ValOk, CellsOk}
use Rattle.csub_runner.specs.declared.val.Cells.{Cells}
use Rattle.csub_runner.specs.Parts.{weight}
use Rattle.csub_runner.specs.declared.val.Val.{Val}
use Rattle.csub_runner.specs.declared.heap.Heap.{Heap}
use Rattle.csub_runner.proofs.Erasing.{constant_erased}
use Rattle.csub_runner.proofs.Waits.{constant_ok}

-- what the lists that wait still hold, the last one first
abbrev pub pending : List (Bor (List CCell)) → List CConst
pending [] = []
pending (r ∷ rs) = pending rs ++ joined (map cell_constants r.now)

abbrev pub load : List (Bor (List CCell)) → ℕ
load rs = sum_by (λ r. sum_by weight r.now + 1) rs

pub pending_push : (rs : List (Bor (List CCell))) (r : Bor (List CCell)) → pending (rs ++ r ∷ []) ≡ joined (map cell_constants r.now) ++ pending rs
pending_push [] r = sym (append-nil (joined (map cell_constants r.now)))
pending_push (x ∷ rs) r = ap (λ cs. cs ++ joined (map cell_constants x.now)) (pending_push rs r) ∙ append_assoc (joined (map cell_constants r.now)) (pending rs) (joined (map cell_constants x.now))

abbrev IsRead : List Val → List (Bor (List CCell)) → List CCell → Type 0
IsRead values rs cells = values ++ map raw_constant (pending rs) ≡ map raw_constant (joined (map cell_constants cells))

module _ (values : List Val) (rs before : List (Bor (List CCell))) (cells : List CCell) (r : Bor (List CCell)) (popped : before ≡ rs ++ r ∷ []) where
  -- an empty list
  pub read_empty : r.now ≡ [] → IsRead values before cells → IsRead values rs cells
  read_empty e h = ap (λ cs. values ++ map raw_constant cs) (sym (ap pending popped ∙ pending_push rs r ∙ ap (λ x. joined (map cell_constants x) ++ pending rs) e)) ∙ h

  module _ (first : CCell) (others : Bor (List CCell)) (is : r.now ≡ first ∷ others.now) where
    pending_is : pending before ≡ cell_constants first ++ (joined (map cell_constants others.now) ++ pending rs)
    pending_is = ap pending popped ∙ pending_push rs r ∙ ap (λ x. joined (map cell_constants x) ++ pending rs) is ∙ append_assoc (cell_constants first) (joined (map cell_constants others.now)) (pending rs)

    pub read_value : (now : List (Bor (List CCell))) (values2 : List Val) (c : CConst) → now ≡ rs ++ others ∷ [] → cell_constants first ≡ c ∷ [] → values2 ≡ values ++ raw_constant c ∷ [] → IsRead values before cells → IsRead values2 now cells
    read_value now values2 c e one more h =
        ap (λ vs. vs ++ map raw_constant (pending now)) more ∙ ap (λ cs. (values ++ raw_constant c ∷ []) ++ map raw_constant cs) (ap pending e ∙ pending_push rs others)
        ∙ append_assoc values (raw_constant c ∷ []) (map raw_constant (joined (map cell_constants others.now) ++ pending rs))
        ∙ ap (λ cs. values ++ map raw_constant cs) (sym (pending_is ∙ ap (λ cs. cs ++ (joined (map cell_constants others.now) ++ pending rs)) one)) ∙ h

    pub read_parts : (now : List (Bor (List CCell))) (parts : Bor (List CCell)) → now ≡ (rs ++ others ∷ []) ++ parts ∷ [] → cell_constants first ≡ joined (map cell_constants parts.now) → IsRead values before cells → IsRead values now cells
    read_parts now parts e same h =
        ap (λ cs. values ++ map raw_constant cs) (ap pending e ∙ pending_push (rs ++ others ∷ []) parts ∙ ap (λ cs. joined (map cell_constants parts.now) ++ cs) (pending_push rs others)
        ∙ ap (λ cs. cs ++ (joined (map cell_constants others.now) ++ pending rs)) (sym same) ∙ sym pending_is) ∙ h

-- a list by its first element
pub first_of_list : {X : Type 0} (xs : List X) (x : X) → 1 ≤ length xs → x ≡ get_or xs 0 x → xs ≡ x ∷ drop 1 xs
first_of_list [] x le e = absurd (omega (arith, le))
first_of_list (y ∷ xs) x le e = ap (λ z. z ∷ xs) (sym e)

pub empty_list : {X : Type 0} (xs : List X) → length xs < 1 → xs ≡ []
empty_list [] lt = refl
empty_list (x ∷ xs) lt = absurd (omega (arith, lt))

-- constants are ok in every heap
pub constants_ok : (heap : Heap) (cs : List CConst) → All (ValOk heap) (map raw_constant cs)
constants_ok heap cs = All-map (ValOk heap) raw_constant cs (λ k d lt. constant_ok heap (get_or cs k d))

pub constants_erased : (cs : List CConst) → erase_all (map raw_constant cs) ≡ map constant cs
constants_erased [] = refl
constants_erased (c ∷ cs) = ap (λ v. v ∷ erase_all (map raw_constant cs)) (constant_erased c) ∙ ap (λ vs. constant c ∷ vs) (constants_erased cs)

pub erased_take : (n : ℕ) (vs : List Val) → erase_all (take n vs) ≡ take n (erase_all vs)
erased_take zero vs = refl
erased_take (suc n) [] = refl
erased_take (suc n) (v ∷ vs) = ap (λ ws. erase v ∷ ws) (erased_take n vs)

pub erased_drop : (n : ℕ) (vs : List Val) → erase_all (drop n vs) ≡ drop n (erase_all vs)
erased_drop zero vs = refl
erased_drop (suc n) [] = refl
erased_drop (suc n) (v ∷ vs) = erased_drop n vs

pub static_ok : (heap : Heap) (cells : Cells) (cs : List CConst) (n : ℕ) → cells.fields.items ≡ take n (map raw_constant cs) → cells.elements.items ≡ drop n (map raw_constant cs) → CellsOk heap cells
static_ok heap cells cs n e f = record {
  fields = All-same (ValOk heap) cells.fields.items (take n (map raw_constant cs)) e (All-take (ValOk heap) n (map raw_constant cs) (constants_ok heap cs));
  elements = All-same (ValOk heap) cells.elements.items (drop n (map raw_constant cs)) f (All-drop (ValOk heap) n (map raw_constant cs) (constants_ok heap cs));
}

pub static_is : (cells : Cells) (cs : List CConst) (n : ℕ) → cells.fields.items ≡ take n (map raw_constant cs) → cells.elements.items ≡ drop n (map raw_constant cs)
    → erase_cells cells ≡ record { kind = cells.kind; fields = take n (map constant cs); items = drop n (map constant cs) }
static_is cells cs n e f =
    ap (λ vs. record { kind = cells.kind; fields = vs; items = erase_all cells.elements.items }) (ap erase_all e ∙ erased_take n (map raw_constant cs) ∙ ap (take n) (constants_erased cs))
    ∙ ap (λ vs. record { kind = cells.kind; fields = take n (map constant cs); items = vs }) (ap erase_all f ∙ erased_drop n (map raw_constant cs) ∙ ap (drop n) (constants_erased cs))

-- one static more
pub take_more : {X : Type 0} (xs : List X) (i : ℕ) (x : X) → i < length xs → x ≡ get_or xs i x → take (i + 1) xs ≡ take i xs ++ x ∷ []
take_more [] i x lt e = absurd (omega (arith, lt))
take_more (y ∷ xs) zero x lt e = ap (λ z. z ∷ []) (sym e)
take_more (y ∷ xs) (suc i) x lt e = let s : suc i + 1 ≡ suc (i + 1) = omega arith in ap (λ j. take j (y ∷ xs)) s ∙ ap (λ zs. y ∷ zs) (take_more xs i x (omega (arith, lt)) e)

pub more_statics : {X Y Z : Type 0} (f : X → Z) (g : Y → Z) (xs now : List X) (ys : List Y) (i : ℕ) (x : X) (y : Y) → now ≡ xs ++ x ∷ [] → f x ≡ g y → i < length ys → y ≡ get_or ys i y → map f xs ≡ map g (take i ys)
    → map f now ≡ map g (take (i + 1) ys)
more_statics f g xs now ys i x y e same lt is h =
    ap (map f) e ∙ map-append f xs (x ∷ []) ∙ ap (λ zs. zs ++ f x ∷ []) h ∙ ap (λ z. map g (take i ys) ++ z ∷ []) same
    ∙ sym (ap (map g) (take_more ys i y lt is) ∙ map-append g (take i ys) (y ∷ []))
