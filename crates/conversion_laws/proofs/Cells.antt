-- Statics that are asked for are there, and those that were stay.
use Rattle.std.proofs.Common.{◌≡◌, ℕ, zero, suc, ◌+◌, ◌==◌, ◌&&◌, Bool, true, false, List, [], ◌∷◌, ◌++◌, length, map, Option, Some, None, refl, sym, ap, ◌∙◌, arith, append_assoc}
use Rattle.std.specs.Prelude.{slice_get, if◌then◌else◌}
use Rattle.std.proofs.lemmas.Bool.Decides.{nat_tests}
use Rattle.std.proofs.lemmas.List.{append-nil}
use Rattle.csub_tree.specs.declared.tree.CCell.{CCell, out-CCell, roll-CCell, roll-out-CCell}
use Rattle.csub_tree.specs.declared.tree.CCell.TheVariants as cell
use Rattle.csub_tree.specs.declared.tree.CCell.TheOpen.{CCell-F}
use Rattle.csub_tree.specs.declared.tree.CConst.{CConst}
use Rattle.csub_tree.specs.declared.tree.CConst.TheVariants as constant
use Rattle.csub_tree.specs.declared.tree.CStatic.{CStatic}
use Rattle.rtyper_data.specs.declared.found.Found.{Found}
use Rattle.rtyper_data.specs.Finding.{same_constant, same_cell, same_cells, static_from, static_of, placed}
use Rattle.rtyper_data.proofs.Cells.{constants_are, braces_are, brace_is_no_constant, constant_is_no_brace}

pub constant_same : (a b : CConst) → same_constant a b ≡ true → a ≡ b
constant_same (constant.Word y) (constant.Word z) h = (let q : y ≡ z = grind (arith, h) in ap constant.Word q)
constant_same (constant.Char y) (constant.Char z) h = (let q : y ≡ z = grind (arith, nat_tests, h) in ap constant.Char q)
constant_same (constant.Bool true) (constant.Bool true) h = refl
constant_same (constant.Bool false) (constant.Bool false) h = refl
constant_same constant.Null constant.Null h = refl
constant_same (constant.Static m y) (constant.Static n z) h = (let q : m ≡ n = grind (arith, nat_tests, h) in let r : y ≡ z = grind (arith, nat_tests, h) in ap (λ m. constant.Static m y) q ∙ ap (constant.Static n) r)
constant_same (constant.Fun y) (constant.Fun z) h = (let q : y ≡ z = grind (arith, nat_tests, h) in ap constant.Fun q)
constant_same _ _ h = absurd (cc)

-- ---- cells of constants

const_layer : (x : CCell-F CCell) (c : CConst) → same_cell (roll-CCell x) (cell.Const c) ≡ true → roll-CCell x ≡ cell.Const c
const_layer (CCell-F.Const a) c h = cell.rolls-Const a ∙ ap cell.Const (constant_same a c (sym (constants_are a c) ∙ ap (λ x. same_cell x (cell.Const c)) (sym (cell.rolls-Const a)) ∙ h))
const_layer (CCell-F.Braces xs) c h = (let q : false ≡ true = sym (brace_is_no_constant xs c) ∙ ap (λ x. same_cell x (cell.Const c)) (sym (cell.rolls-Braces xs)) ∙ h in absurd (cc))

const_same : (x : CCell) (c : CConst) → same_cell x (cell.Const c) ≡ true → x ≡ cell.Const c
const_same x c h = sym (roll-out-CCell x) ∙ const_layer (out-CCell x) c (ap (λ x. same_cell x (cell.Const c)) (roll-out-CCell x) ∙ h)

first_true : (a b : Bool) → (a && b) ≡ true → a ≡ true
first_true true b h = refl
first_true false b h = absurd (cc)

second_true : (a b : Bool) → (a && b) ≡ true → b ≡ true
second_true true b h = h
second_true false b h = absurd (cc)

abbrev pub consts : List CConst → List CCell
consts cs = map cell.Const cs

pub consts_same : (xs : List CCell) (cs : List CConst) → same_cells xs (consts cs) ≡ true → xs ≡ consts cs
consts_same [] [] h = refl
consts_same [] (c ∷ cs) h = absurd (cc)
consts_same (x ∷ xs) [] h = absurd (cc)
consts_same (x ∷ xs) (c ∷ cs) h =
    let a = same_cell x (cell.Const c) in
    let b = same_cells xs (consts cs) in
    ap (λ x. x ∷ xs) (const_same x c (first_true a b h)) ∙ ap (λ xs. cell.Const c ∷ xs) (consts_same xs cs (second_true a b h))

braces_layer : (x : CCell-F CCell) (cs : List CConst) → same_cell (roll-CCell x) (cell.Braces (consts cs)) ≡ true → roll-CCell x ≡ cell.Braces (consts cs)
braces_layer (CCell-F.Const a) cs h = (let q : false ≡ true = sym (constant_is_no_brace a (consts cs)) ∙ ap (λ x. same_cell x (cell.Braces (consts cs))) (sym (cell.rolls-Const a)) ∙ h in absurd (cc))
braces_layer (CCell-F.Braces xs) cs h = cell.rolls-Braces xs ∙ ap cell.Braces (consts_same xs cs (sym (braces_are xs (consts cs)) ∙ ap (λ x. same_cell x (cell.Braces (consts cs))) (sym (cell.rolls-Braces xs)) ∙ h))

braces_same : (x : CCell) (cs : List CConst) → same_cell x (cell.Braces (consts cs)) ≡ true → x ≡ cell.Braces (consts cs)
braces_same x cs h = sym (roll-out-CCell x) ∙ braces_layer (out-CCell x) cs (ap (λ x. same_cell x (cell.Braces (consts cs))) (roll-out-CCell x) ∙ h)

-- a constant, and some in braces
pub text_same : (xs : List CCell) (c : CConst) (cs : List CConst) → same_cells xs (cell.Const c ∷ cell.Braces (consts cs) ∷ []) ≡ true → xs ≡ cell.Const c ∷ cell.Braces (consts cs) ∷ []
text_same [] c cs h = absurd (cc)
text_same (x ∷ []) c cs h = (let q = second_true (same_cell x (cell.Const c)) false h in absurd (cc))
text_same (x ∷ y ∷ []) c cs h =
    let a = same_cell x (cell.Const c) in
    let b = same_cell y (cell.Braces (consts cs)) in
    ap (λ x. x ∷ y ∷ []) (const_same x c (first_true a (b && true) h)) ∙ ap (λ y. cell.Const c ∷ y ∷ []) (braces_same y cs (first_true b true (second_true a (b && true) h)))
text_same (x ∷ y ∷ z ∷ xs) c cs h =
    let a = same_cell x (cell.Const c) in
    let b = same_cell y (cell.Braces (consts cs)) in
    (let q = second_true b false (second_true a (b && false) h) in absurd (cc))

-- ---- statics

-- cells that are told from others
abbrev pub AreTold : List CCell → Type 0
AreTold cells = (xs : List CCell) → same_cells xs cells ≡ true → xs ≡ cells

abbrev static_at : ℕ → List CCell → CStatic
static_at kind cells = record { kind = kind; cells = cells }

-- the second list begins with the first
pub record Begins {A : Type 0} (xs ys : List A) : Type 0 where
  pub more : List A
  pub is : ys ≡ xs ++ more

pub begins_same : {A : Type 0} (xs : List A) → Begins xs xs
begins_same xs = record { more = []; is = sym (append-nil xs) }

pub begins_then : {A : Type 0} {xs ys zs : List A} → Begins xs ys → Begins ys zs → Begins xs zs
begins_then {xs = xs} a b = record { more = a.more ++ b.more; is = b.is ∙ ap (λ ys. ys ++ b.more) a.is ∙ append_assoc xs a.more b.more }

pub get_begun : {A : Type 0} (xs more : List A) (i : ℕ) (x : A) → slice_get xs i ≡ Some x → slice_get (xs ++ more) i ≡ Some x
get_begun [] more i x h = absurd (cc)
get_begun (y ∷ xs) more zero x h = h
get_begun (y ∷ xs) more (suc i) x h = get_begun xs more i x h

pub begun_at : {A : Type 0} {xs ys : List A} → Begins xs ys → (i : ℕ) (x : A) → slice_get xs i ≡ Some x → slice_get ys i ≡ Some x
begun_at {xs = xs} b i x h = ap (λ ys. slice_get ys i) b.is ∙ get_begun xs b.more i x h

get_last : {A : Type 0} (xs : List A) (x : A) → slice_get (xs ++ x ∷ []) (length xs) ≡ Some x
get_last [] x = refl
get_last (y ∷ xs) x = get_last xs x

record AtPlace (statics : List CStatic) (n k kind : ℕ) (cells : List CCell) : Type 0 where
  place : ℕ
  number : k ≡ n + place
  there : slice_get statics place ≡ Some (static_at kind cells)

static_found : (n : ℕ) (statics : List CStatic) (kind : ℕ) (cells : List CCell) (k : ℕ) → AreTold cells → static_from n statics kind cells ≡ Some k → AtPlace statics n k kind cells
static_found n [] kind cells k told h = absurd (cc)
static_found n (s ∷ statics) kind cells k told h = by (λ h. static_found (n + 1) statics kind cells k told h) (s.kind == kind && same_cells s.cells cells) refl
  where
    by : (static_from (n + 1) statics kind cells ≡ Some k → AtPlace statics (n + 1) k kind cells) → (c : Bool) → (s.kind == kind && same_cells s.cells cells) ≡ c → AtPlace (s ∷ statics) n k kind cells
    by rest true e =
        let q : n ≡ k = (let r : Some n ≡ Some k = ap (λ c. if c then Some n else static_from (n + 1) statics kind cells) (sym e) ∙ h in cc) in
        let a : s.kind ≡ kind = (let r = first_true (s.kind == kind) (same_cells s.cells cells) e in grind (arith, nat_tests, r)) in
        let b : s.cells ≡ cells = told s.cells (second_true (s.kind == kind) (same_cells s.cells cells) e) in
        record { place = 0; number = omega (arith, q); there = ap (λ k. Some (static_at k s.cells)) a ∙ ap (λ cs. Some (static_at kind cs)) b }
    by rest false e = (let r = rest (ap (λ c. if c then Some n else static_from (n + 1) statics kind cells) (sym e) ∙ h) in record { place = suc r.place; number = (let m = r.number in omega (arith, m)); there = r.there })

-- what is asked for is a static with these cells
pub record IsStatic (kind : ℕ) (cells : List CCell) (made : CConst × Found) (found : Found) : Type 0 where
  pub number : ℕ
  pub constant : made.0 ≡ constant.Static kind number
  pub there : slice_get made.1.statics number ≡ Some (static_at kind cells)
  pub begins : Begins found.statics made.1.statics

placed_is : (kind : ℕ) (cells : List CCell) (found : Found) (o : Option ℕ) → static_from 0 found.statics kind cells ≡ o → AreTold cells → IsStatic kind cells (placed kind cells found o) found
placed_is kind cells found (Some n) h told =
    let it = static_found 0 found.statics kind cells n told h in
    record { number = n; constant = refl; there = (let q : n ≡ it.place = (let m = it.number in omega (arith, m)) in ap (slice_get found.statics) q ∙ it.there); begins = begins_same found.statics }
placed_is kind cells found None h told = record { number = length found.statics; constant = refl; there = get_last found.statics (static_at kind cells); begins = record { more = static_at kind cells ∷ []; is = refl } }

pub static_is : (kind : ℕ) (cells : List CCell) (found : Found) → AreTold cells → IsStatic kind cells (static_of kind cells found) found
unfolding static_of
static_is kind cells found told = placed_is kind cells found (static_from 0 found.statics kind cells) refl told
