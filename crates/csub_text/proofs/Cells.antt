-- The cells of statics are read as they are spelled.
use Rattle.std.proofs.Common.{◌≡◌, ℕ, pos, negsuc, suc, ◌+◌, ◌^◌, ◌<◌, ◌≤◌, ◌-◌, ◌==◌, ◌&&◌, nat_lt, Bool, true, false, cond, List, [], ◌∷◌, ◌++◌, Some, None, refl, ap, ◌∙◌, arith, sym, subst, append_assoc, length, length-append, codes, map}
use Rattle.std.specs.List.{flat_map}
use Rattle.std.specs.Fmt.{decimal, signed_decimal}
use Rattle.std.proofs.lemmas.Grind.{common_steps}
use Rattle.std.proofs.lemmas.List.{append-nil}
use Rattle.csub_tree.specs.declared.tree.CConst.{CConst}
use Rattle.csub_tree.specs.declared.tree.CConst.TheVariants as const
use Rattle.csub_tree.specs.declared.tree.CCell.{CCell, fold-CCell, roll-CCell, map-CCell}
use Rattle.csub_tree.specs.declared.tree.CCell.TheOpen.{CCell-F}
use Rattle.csub_tree.specs.declared.tree.CCell.TheFolds.{fold-roll-CCell, ind-CCell}
use Rattle.csub_tree.specs.declared.tree.CCell.TheViews.{outs-Braces}
use Rattle.csub_tree.specs.declared.tree.CCell.TheVariants as cell
use Rattle.csub_tree.specs.declared.tree.CCell.TheVariants.{rolls-Const, rolls-Braces}
use Rattle.csub_tree.specs.Spelling as spell
use Rattle.csub_text.specs.Written.{All, IsConstant, IsCell, cell_fits, cell_step, constant_fits, all_true}
use Rattle.csub_text.specs.Read.{after, begins}
use Rattle.csub_text.specs.ReadFile as of
use Rattle.csub_text.specs.ReadFile.{cells, Open, begin, follow, last_of, turns, whole_list}
use Rattle.csub_text.proofs.Numbers.{ends, Digit, digit_first}
use Rattle.csub_text.proofs.Names.{constant_own}

fits_below : (n m : ℕ) → nat_lt n m ≡ true → n < m
fits_below n m e = grind (arith, common_steps)

pub first_true : (b c : Bool) → (b && c) ≡ true → b ≡ true
first_true true c e = refl
first_true false c e = e

pub second_true : (b c : Bool) → (b && c) ≡ true → c ≡ true
second_true true c e = e
second_true false c e = cc

constant_is : (c : CConst) → constant_fits c ≡ true → IsConstant c
constant_is (const.Word (pos n)) e = fits_below n (2 ^ 63) e
constant_is (const.Word (negsuc n)) e = fits_below n (2 ^ 63) e
constant_is (const.Char n) e = fits_below n 256 e
constant_is (const.Bool b) e = tt
constant_is const.Null e = tt
constant_is (const.Static s g) e = (fits_below s (2 ^ 64) (first_true (nat_lt s (2 ^ 64)) (nat_lt g (2 ^ 64)) e), fits_below g (2 ^ 64) (second_true (nat_lt s (2 ^ 64)) (nat_lt g (2 ^ 64)) e))
constant_is (const.Fun f) e = fits_below f (2 ^ 64) e

-- what a constant begins with: neither brace
no_brace_digit : (b : ℕ) (after ds s r : List ℕ) → 123 ≤ b → Digit ds → begins (b ∷ after) ((ds ++ s) ++ r) ≡ false
no_brace_digit b after ds s r brace h =
    let t : (ds ++ s) ++ r ≡ h.first ∷ ((h.rest ++ s) ++ r) = ap (λ t. (t ++ s) ++ r) h.is in
    let other : (h.first == b) ≡ false = grind (arith, common_steps, h.high) in
    rw (t, other) refl

no_open_minus : (smallest : Bool) (n : ℕ) (r : List ℕ) → begins (codes "{") (cond smallest (codes "RPY_MIN") (signed_decimal (negsuc n) ++ codes "L") ++ r) ≡ false
no_open_minus true n r = refl
no_open_minus false n r = refl

no_open : (c : CConst) (r : List ℕ) → IsConstant c → begins (codes "{") (spell.constant_text c ++ r) ≡ false
no_open (const.Word (pos n)) r ok = no_brace_digit 123 [] (decimal n) (codes "L") r (omega arith) (digit_first n (omega arith))
no_open (const.Word (negsuc n)) r ok = no_open_minus (n == 9223372036854775807) n r
no_open (const.Char n) r ok = refl
no_open (const.Bool true) r ok = refl
no_open (const.Bool false) r ok = refl
no_open const.Null r ok = refl
no_open (const.Static s g) r ok = refl
no_open (const.Fun f) r ok = refl

no_close_minus : (smallest : Bool) (n : ℕ) (r : List ℕ) → begins (codes "}") (cond smallest (codes "RPY_MIN") (signed_decimal (negsuc n) ++ codes "L") ++ r) ≡ false
no_close_minus true n r = refl
no_close_minus false n r = refl

no_close : (c : CConst) (r : List ℕ) → IsConstant c → begins (codes "}") (spell.constant_text c ++ r) ≡ false
no_close (const.Word (pos n)) r ok = no_brace_digit 125 [] (decimal n) (codes "L") r (omega arith) (digit_first n (omega arith))
no_close (const.Word (negsuc n)) r ok = no_close_minus (n == 9223372036854775807) n r
no_close (const.Char n) r ok = refl
no_close (const.Bool true) r ok = refl
no_close (const.Bool false) r ok = refl
no_close const.Null r ok = refl
no_close (const.Static s g) r ok = refl
no_close (const.Fun f) r ok = refl

-- the text of a cell, and whether it fits, by its layer
const_text : (c : CConst) → spell.cell_text (roll-CCell (CCell-F.Const c)) ≡ spell.constant_text c
const_text c = fold-roll-CCell (List ℕ) spell.cell_step (CCell-F.Const c)

braces_text : (cs : List CCell) → spell.cell_text (roll-CCell (CCell-F.Braces cs)) ≡ spell.cells_text (map spell.cell_text cs)
braces_text cs = fold-roll-CCell (List ℕ) spell.cell_step (CCell-F.Braces cs)

const_fits : (c : CConst) → IsCell (roll-CCell (CCell-F.Const c)) → IsConstant c
const_fits c ok = constant_is c (sym (fold-roll-CCell Bool cell_step (CCell-F.Const c)) ∙ ok)

all_cells : (cs : List CCell) → all_true (map cell_fits cs) ≡ true → All IsCell cs
all_cells [] e = tt
all_cells (c ∷ cs) e = (first_true (cell_fits c) (all_true (map cell_fits cs)) e, all_cells cs (second_true (cell_fits c) (all_true (map cell_fits cs)) e))

pub braces_fit : (cs : List CCell) → IsCell (roll-CCell (CCell-F.Braces cs)) → All IsCell cs
braces_fit cs ok = all_cells cs (sym (fold-roll-CCell Bool cell_step (CCell-F.Braces cs)) ∙ ok)

opens : (cs : List CCell) (r : List ℕ) → begins (codes "{") (spell.cells_text (map spell.cell_text cs) ++ r) ≡ true
opens [] r = refl
opens (c ∷ cs) r = refl

not_closed : (cs : List CCell) (r : List ℕ) → begins (codes "}") (spell.cells_text (map spell.cell_text cs) ++ r) ≡ false
not_closed [] r = refl
not_closed (c ∷ cs) r = refl

-- no cell begins with a closing brace
abbrev Unclosed : CCell → Type 0
Unclosed c = IsCell c → (r : List ℕ) → begins (codes "}") (spell.cell_text c ++ r) ≡ false

unclosed : (c : CCell) → Unclosed c
unclosed = ind-CCell Unclosed (λ x y is ok r. (elim x as (λ z. IsCell (roll-CCell z) → begins (codes "}") (spell.cell_text (roll-CCell z) ++ r) ≡ false) [
  | CCell-F.Const c ↦ λ o. ap (λ t. begins (codes "}") (t ++ r)) (const_text c) ∙ no_close c r (const_fits c o)
  | CCell-F.Braces cs ↦ λ o. ap (λ t. begins (codes "}") (t ++ r)) (braces_text cs) ∙ not_closed cs r
]) ok)

-- ---- turns

no_empty_minus : (smallest : Bool) (n : ℕ) (r : List ℕ) → begins (codes "{ }") (cond smallest (codes "RPY_MIN") (signed_decimal (negsuc n) ++ codes "L") ++ r) ≡ false
no_empty_minus true n r = refl
no_empty_minus false n r = refl

no_empty : (c : CConst) (r : List ℕ) → IsConstant c → begins (codes "{ }") (spell.constant_text c ++ r) ≡ false
no_empty (const.Word (pos n)) r ok = no_brace_digit 123 (codes " }") (decimal n) (codes "L") r (omega arith) (digit_first n (omega arith))
no_empty (const.Word (negsuc n)) r ok = no_empty_minus (n == 9223372036854775807) n r
no_empty (const.Char n) r ok = refl
no_empty (const.Bool true) r ok = refl
no_empty (const.Bool false) r ok = refl
no_empty const.Null r ok = refl
no_empty (const.Static s g) r ok = refl
no_empty (const.Fun f) r ok = refl

pub last_own : {A : Type 0} (xs : List A) (x : A) → last_of (xs ++ x ∷ []) ≡ Some (xs, x)
unfolding last_of
last_own [] x = refl
last_own (y ∷ ys) x = rw (last_own ys x) refl

after_const : (f : ℕ) (lists : Open) (c : CConst) (r : List ℕ) → IsConstant c → ends r ≡ true → turns (suc f) lists None (spell.constant_text c ++ r) ≡ turns f lists (Some (cell.Const c)) r
unfolding turns begin
after_const f lists c r ok e = rw (no_empty c r ok, no_open c r ok, constant_own c r ok e) refl

after_empty : (f : ℕ) (lists : Open) (r : List ℕ) → turns (suc f) lists None (codes "{ }" ++ r) ≡ turns f lists (Some (cell.Braces [])) r
unfolding turns begin
after_empty f lists r = refl

after_open : (f : ℕ) (lists : Open) (r : List ℕ) → begins (codes "}") r ≡ false → turns (suc f) lists None (codes "{ " ++ r) ≡ turns f (lists ++ [] ∷ []) None r
unfolding turns begin
after_open f lists r apart = rw apart refl

after_comma : (f : ℕ) (outer : Open) (cells : List CCell) (c : CCell) (r : List ℕ) → turns (suc f) (outer ++ cells ∷ []) (Some c) (codes ", " ++ r) ≡ turns f (outer ++ (cells ++ c ∷ []) ∷ []) None r
unfolding turns follow
after_comma f outer cells c r = rw (last_own outer cells) refl

after_close : (f : ℕ) (outer : Open) (cells : List CCell) (c : CCell) (r : List ℕ) → turns (suc f) (outer ++ cells ∷ []) (Some c) (codes " }" ++ r) ≡ turns f outer (Some (cell.Braces (cells ++ c ∷ []))) r
unfolding turns follow
after_close f outer cells c r = rw (last_own outer cells) refl

abbrev each : List ℕ → ℕ
each [] = 0
each (n ∷ ns) = suc n + each ns

one_more : (f : ℕ) → 1 + f ≡ suc f
one_more f = omega arith

-- as many turns as are spent on a cell, and on those of a list
abbrev spent_on : List ℕ → ℕ
spent_on [] = 1
spent_on (n ∷ ns) = suc (suc n) + each ns

abbrev spent_step : CCell-F ℕ → ℕ
spent_step (CCell-F.Const c) = 1
spent_step (CCell-F.Braces ns) = spent_on ns

abbrev spent : CCell → ℕ
spent = fold-CCell ℕ spent_step

-- a cell is read back, in these turns
abbrev Back : CCell → Type 0
Back c = IsCell c → (f : ℕ) (lists : Open) (r : List ℕ) → ends r ≡ true → turns (spent c + f) lists None (spell.cell_text c ++ r) ≡ turns f lists (Some c) r

back_const : (c : CConst) → Back (roll-CCell (CCell-F.Const c))
back_const c ok f lists r e =
    let n : spent (roll-CCell (CCell-F.Const c)) + f ≡ suc f = ap (λ m. m + f) (fold-roll-CCell ℕ spent_step (CCell-F.Const c)) ∙ one_more f in
    ap (λ m. turns m lists None (spell.cell_text (roll-CCell (CCell-F.Const c)) ++ r)) n
    ∙ ap (λ t. turns (suc f) lists None (t ++ r)) (const_text c)
    ∙ after_const f lists c r (const_fits c ok) e
    ∙ ap (λ z. turns f lists (Some z) r) (sym (rolls-Const c))

same_list : (cs : List CCell) → flat_map (spell.more (λ t. t)) (map spell.cell_text cs) ≡ flat_map (spell.more spell.cell_text) cs
same_list [] = refl
same_list (c ∷ cs) = ap (λ t. (codes ", " ++ spell.cell_text c) ++ t) (same_list cs)

list_pieces : (o x m c r : List ℕ) → (o ++ (x ++ m) ++ c) ++ r ≡ o ++ (x ++ (m ++ (c ++ r)))
list_pieces o x m c r = simp append_assoc

cons_pieces : (o x m r : List ℕ) → ((o ++ x) ++ m) ++ r ≡ o ++ (x ++ (m ++ r))
cons_pieces o x m r = simp append_assoc

ends_rest : (cs : List CCell) (r : List ℕ) → ends (flat_map (spell.more spell.cell_text) cs ++ (codes " }" ++ r)) ≡ true
ends_rest [] r = refl
ends_rest (c ∷ cs) r = refl

rest_turns : (m n f : ℕ) → suc (suc m + n) + f ≡ suc (m + (suc n + f))
rest_turns m n f = omega arith

last_turn : (f : ℕ) → suc 0 + f ≡ suc f
last_turn f = omega arith

-- the cells after the first, where the list is closed
back_rest : (cs : List CCell) → All Back cs → All IsCell cs → (f : ℕ) (outer : Open) (cells : List CCell) (c : CCell) (r : List ℕ)
    → turns (suc (each (map spent cs)) + f) (outer ++ cells ∷ []) (Some c) (flat_map (spell.more spell.cell_text) cs ++ (codes " }" ++ r)) ≡ turns f outer (Some (cell.Braces ((cells ++ c ∷ []) ++ cs))) r
back_rest [] backs ok f outer cells c r =
    ap (λ m. turns m (outer ++ cells ∷ []) (Some c) (codes " }" ++ r)) (last_turn f)
    ∙ after_close f outer cells c r
    ∙ ap (λ z. turns f outer (Some (cell.Braces z)) r) (sym (append-nil (cells ++ c ∷ [])))
back_rest (d ∷ cs) backs ok f outer cells c r =
    let after : List ℕ = flat_map (spell.more spell.cell_text) cs ++ (codes " }" ++ r) in
    ap (λ m. turns m (outer ++ cells ∷ []) (Some c) (flat_map (spell.more spell.cell_text) (d ∷ cs) ++ (codes " }" ++ r))) (rest_turns (spent d) (each (map spent cs)) f)
    ∙ ap (turns (suc (spent d + (suc (each (map spent cs)) + f))) (outer ++ cells ∷ []) (Some c)) (cons_pieces (codes ", ") (spell.cell_text d) (flat_map (spell.more spell.cell_text) cs) (codes " }" ++ r))
    ∙ after_comma (spent d + (suc (each (map spent cs)) + f)) outer cells c (spell.cell_text d ++ after)
    ∙ backs.0 ok.0 (suc (each (map spent cs)) + f) (outer ++ (cells ++ c ∷ []) ∷ []) after (ends_rest cs r)
    ∙ back_rest cs backs.1 ok.1 f outer (cells ++ c ∷ []) d r
    ∙ ap (λ z. turns f outer (Some (cell.Braces z)) r) (append_assoc (cells ++ c ∷ []) (d ∷ []) cs)

first_turns : (m n f : ℕ) → (suc (suc m) + n) + f ≡ suc (m + (suc n + f))
first_turns m n f = omega arith

-- a list of cells, where it begins
back_list : (cs : List CCell) → All Back cs → All IsCell cs → (f : ℕ) (lists : Open) (r : List ℕ) → ends r ≡ true
    → turns (spent_on (map spent cs) + f) lists None (spell.cells_text (map spell.cell_text cs) ++ r) ≡ turns f lists (Some (cell.Braces cs)) r
back_list [] backs ok f lists r e = ap (λ m. turns m lists None (codes "{ }" ++ r)) (one_more f) ∙ after_empty f lists r
back_list (c ∷ cs) backs ok f lists r e =
    let after : List ℕ = flat_map (spell.more spell.cell_text) cs ++ (codes " }" ++ r) in
    let t : spell.cells_text (map spell.cell_text (c ∷ cs)) ++ r ≡ codes "{ " ++ (spell.cell_text c ++ after) =
    ap (λ m. (codes "{ " ++ (spell.cell_text c ++ m) ++ codes " }") ++ r) (same_list cs) ∙ list_pieces (codes "{ ") (spell.cell_text c) (flat_map (spell.more spell.cell_text) cs) (codes " }") r in
    ap (λ m. turns m lists None (spell.cells_text (map spell.cell_text (c ∷ cs)) ++ r)) (first_turns (spent c) (each (map spent cs)) f)
    ∙ ap (turns (suc (spent c + (suc (each (map spent cs)) + f))) lists None) t
    ∙ after_open (spent c + (suc (each (map spent cs)) + f)) lists (spell.cell_text c ++ after) (unclosed c ok.0 after)
    ∙ backs.0 ok.0 (suc (each (map spent cs)) + f) (lists ++ [] ∷ []) after (ends_rest cs r)
    ∙ back_rest cs backs.1 ok.1 f lists [] c r

back_braces : (cs : List CCell) → All Back cs → Back (roll-CCell (CCell-F.Braces cs))
back_braces cs all ok f lists r e =
    ap (λ m. turns (m + f) lists None (spell.cell_text (roll-CCell (CCell-F.Braces cs)) ++ r)) (fold-roll-CCell ℕ spent_step (CCell-F.Braces cs))
    ∙ ap (λ t. turns (spent_on (map spent cs) + f) lists None (t ++ r)) (braces_text cs)
    ∙ back_list cs all (braces_fit cs ok) f lists r e
    ∙ ap (λ z. turns f lists (Some z) r) (sym (rolls-Braces cs))

all_back : (ys : List ((c : CCell) × Back c)) → All Back (map (λ e. e.0) ys)
all_back [] = tt
all_back (y ∷ ys) = (y.1, all_back ys)

pub back : (c : CCell) → Back c
back = ind-CCell Back (λ x y is. (elim y as (λ z. map-CCell _ CCell (λ e. e.0) z ≡ x → Back (roll-CCell x)) [ CCell-F.Const c ↦ λ e. subst (λ z. Back (roll-CCell z)) e (back_const c) | CCell-F.Braces ys ↦ λ e. subst (λ z. Back (roll-CCell z)) e (back_braces (map (λ p. p.0) ys) (all_back ys)) ]) is)

every_back : (cs : List CCell) → All Back cs
every_back [] = tt
every_back (c ∷ cs) = (back c, every_back cs)

-- ---- turns are no more than bytes

some_minus : (smallest : Bool) (n : ℕ) → 1 ≤ length (cond smallest (codes "RPY_MIN") (signed_decimal (negsuc n) ++ codes "L"))
some_minus true n = omega arith
some_minus false n = omega arith

some_constant : (c : CConst) → 1 ≤ length (spell.constant_text c)
some_constant (const.Word (pos n)) = let l : length (decimal n ++ codes "L") ≡ length (decimal n) + length (codes "L") = length-append (decimal n) (codes "L") in omega (arith, l)
some_constant (const.Word (negsuc n)) = some_minus (n == 9223372036854775807) n
some_constant (const.Char n) = omega arith
some_constant (const.Bool true) = omega arith
some_constant (const.Bool false) = omega arith
some_constant const.Null = omega arith
some_constant (const.Static s g) = omega arith
some_constant (const.Fun f) = omega arith

abbrev Short : CCell → Type 0
Short c = spent c ≤ length (spell.cell_text c)

short_const : (c : CConst) → Short (roll-CCell (CCell-F.Const c))
short_const c =
    let n : spent (roll-CCell (CCell-F.Const c)) ≡ 1 = fold-roll-CCell ℕ spent_step (CCell-F.Const c) in
    let l : length (spell.cell_text (roll-CCell (CCell-F.Const c))) ≡ length (spell.constant_text c) = ap length (const_text c) in
    omega (arith, some_constant c)

short_rest : (cs : List CCell) → All Short cs → each (map spent cs) ≤ length (flat_map (spell.more spell.cell_text) cs)
short_rest [] all = omega arith
short_rest (c ∷ cs) all =
    let l : length ((codes ", " ++ spell.cell_text c) ++ flat_map (spell.more spell.cell_text) cs) ≡ length (codes ", " ++ spell.cell_text c) + length (flat_map (spell.more spell.cell_text) cs) = length-append (codes ", " ++ spell.cell_text c) (flat_map (spell.more spell.cell_text) cs) in
    omega (arith, l, all.0, short_rest cs all.1)

short_list : (cs : List CCell) → All Short cs → suc (spent_on (map spent cs)) ≤ length (spell.cells_text (map spell.cell_text cs))
short_list [] all = omega arith
short_list (c ∷ cs) all =
    let more : List ℕ = flat_map (spell.more spell.cell_text) cs in
    let l : length (spell.cells_text (map spell.cell_text (c ∷ cs))) ≡ length (codes "{ " ++ ((spell.cell_text c ++ more) ++ codes " }")) =
    ap (λ m. length (codes "{ " ++ (spell.cell_text c ++ m) ++ codes " }")) (same_list cs) in
    let l2 : length ((spell.cell_text c ++ more) ++ codes " }") ≡ length (spell.cell_text c ++ more) + length (codes " }") = length-append (spell.cell_text c ++ more) (codes " }") in
    let l3 : length (spell.cell_text c ++ more) ≡ length (spell.cell_text c) + length more = length-append (spell.cell_text c) more in
    let rest : each (map spent cs) ≤ length more = short_rest cs all.1 in
    let first : spent c ≤ length (spell.cell_text c) = all.0 in
    omega arith

short_braces : (cs : List CCell) → All Short cs → Short (roll-CCell (CCell-F.Braces cs))
short_braces cs all =
    let n : spent (roll-CCell (CCell-F.Braces cs)) ≡ spent_on (map spent cs) = fold-roll-CCell ℕ spent_step (CCell-F.Braces cs) in
    let l : length (spell.cell_text (roll-CCell (CCell-F.Braces cs))) ≡ length (spell.cells_text (map spell.cell_text cs)) = ap length (braces_text cs) in
    let s = short_list cs all in
    omega arith

all_short : (ys : List ((c : CCell) × Short c)) → All Short (map (λ e. e.0) ys)
all_short [] = tt
all_short (y ∷ ys) = (y.1, all_short ys)

short : (c : CCell) → Short c
short = ind-CCell Short (λ x y is. (elim y as (λ z. map-CCell _ CCell (λ e. e.0) z ≡ x → Short (roll-CCell x)) [ CCell-F.Const c ↦ λ e. subst (λ z. Short (roll-CCell z)) e (short_const c) | CCell-F.Braces ys ↦ λ e. subst (λ z. Short (roll-CCell z)) e (short_braces (map (λ p. p.0) ys) (all_short ys)) ]) is)

every_short : (cs : List CCell) → All Short cs
every_short [] = tt
every_short (c ∷ cs) = (short c, every_short cs)

-- ---- lists of cells

whole_braces : (cs : List CCell) → whole_list (cell.Braces cs) ≡ Some cs
whole_braces cs = ap of.list_in (outs-Braces cs)

one_turn : (f : ℕ) (cs : List CCell) (r : List ℕ) → turns (suc f) [] (Some (cell.Braces cs)) r ≡ Some (cs, r)
unfolding turns last_of
one_turn f cs r = rw (whole_braces cs) refl

enough : (n m : ℕ) → suc m ≤ n → (f : ℕ) × (n ≡ m + suc f)
enough n m few = (n - suc m, omega arith)

pub cells_own : (cs : List CCell) (r : List ℕ) → All IsCell cs → ends r ≡ true → cells (spell.cells_text (map spell.cell_text cs) ++ r) ≡ Some (cs, r)
unfolding cells
cells_own cs r all e =
    let i : List ℕ = spell.cells_text (map spell.cell_text cs) ++ r in
    let l : length i ≡ length (spell.cells_text (map spell.cell_text cs)) + length r = length-append (spell.cells_text (map spell.cell_text cs)) r in
    let few : suc (spent_on (map spent cs)) ≤ length (spell.cells_text (map spell.cell_text cs)) = short_list cs (every_short cs) in
    let f : (g : ℕ) × (length i ≡ spent_on (map spent cs) + suc g) = enough (length i) (spent_on (map spent cs)) (omega arith) in
    ap (λ n. turns n [] None i) f.1 ∙ back_list cs (every_back cs) all (suc f.0) [] r e ∙ one_turn f.0 cs r
