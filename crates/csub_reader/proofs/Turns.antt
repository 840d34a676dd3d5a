-- The turns of the reader of cells.
use Rattle.std.proofs.Common.{◌≡◌, ℕ, suc, ◌+◌, ◌-◌, ◌<◌, ◌≤◌, List, [], ◌∷◌, ◌++◌, Option, Some, None, refl, ap, ◌∙◌, arith}
use Rattle.csub_tree.specs.declared.tree.CCell.{CCell}
use Rattle.csub_text.specs.Read.{Got}
use Rattle.csub_text.specs.ReadFile.{Open, begin, follow, last_of, turns, whole_list}
use Rattle.csub_text.proofs.Cells.{last_own}

less : (t n : ℕ) → t < n → n - t ≡ suc (n - (t + 1))
less t n h = omega arith

begin_turn : (f : ℕ) (lists next : Open) (pending : Option CCell) (i j : List ℕ) → begin lists i ≡ Some ((next, pending), j) → turns (suc f) lists None i ≡ turns f next pending j
unfolding turns
begin_turn f lists next pending i j is = rw is refl

pub begin_next : (n t : ℕ) (lists next : Open) (pending : Option CCell) (i j : List ℕ) (all : Got (List CCell)) → t < n → begin lists i ≡ Some ((next, pending), j)
    → all ≡ turns (n - t) lists None i → all ≡ turns (n - (t + 1)) next pending j
begin_next n t lists next pending i j all within is so_far =
    so_far ∙ ap (λ f. turns f lists None i) (less t n within) ∙ begin_turn (n - (t + 1)) lists next pending i j is

begin_none : (f : ℕ) (lists : Open) (i : List ℕ) → begin lists i ≡ None → turns (suc f) lists None i ≡ None
unfolding turns
begin_none f lists i is = rw is refl

pub begin_fails : (n t : ℕ) (lists : Open) (i : List ℕ) → t < n → begin lists i ≡ None → turns (n - t) lists None i ≡ None
begin_fails n t lists i within is = ap (λ f. turns f lists None i) (less t n within) ∙ begin_none (n - (t + 1)) lists i is

follow_turn : (f : ℕ) (outer next : Open) (cells : List CCell) (c : CCell) (pending : Option CCell) (i j : List ℕ) → follow outer cells c i ≡ Some ((next, pending), j) → turns (suc f) (outer ++ cells ∷ []) (Some c) i ≡ turns f next pending j
unfolding turns
follow_turn f outer next cells c pending i j is = rw (last_own outer cells, is) refl

pub follow_next : (n t : ℕ) (lists outer next : Open) (cells : List CCell) (c : CCell) (pending : Option CCell) (i j : List ℕ) (all : Got (List CCell)) → t < n → lists ≡ outer ++ cells ∷ [] → follow outer cells c i ≡ Some ((next, pending), j)
    → all ≡ turns (n - t) lists (Some c) i → all ≡ turns (n - (t + 1)) next pending j
follow_next n t lists outer next cells c pending i j all within is_open is so_far =
    so_far ∙ ap (λ f. turns f lists (Some c) i) (less t n within) ∙ ap (λ l. turns (suc (n - (t + 1))) l (Some c) i) is_open ∙ follow_turn (n - (t + 1)) outer next cells c pending i j is

follow_none : (f : ℕ) (outer : Open) (cells : List CCell) (c : CCell) (i : List ℕ) → follow outer cells c i ≡ None → turns (suc f) (outer ++ cells ∷ []) (Some c) i ≡ None
unfolding turns
follow_none f outer cells c i is = rw (last_own outer cells, is) refl

pub follow_fails : (n t : ℕ) (lists outer : Open) (cells : List CCell) (c : CCell) (i : List ℕ) → t < n → lists ≡ outer ++ cells ∷ [] → follow outer cells c i ≡ None → turns (n - t) lists (Some c) i ≡ None
follow_fails n t lists outer cells c i within is_open is =
    ap (λ f. turns f lists (Some c) i) (less t n within) ∙ ap (λ l. turns (suc (n - (t + 1))) l (Some c) i) is_open ∙ follow_none (n - (t + 1)) outer cells c i is

whole_turn : (f : ℕ) (c : CCell) (cells : List CCell) (i : List ℕ) → whole_list c ≡ Some cells → turns (suc f) [] (Some c) i ≡ Some (cells, i)
unfolding turns last_of
whole_turn f c cells i is = rw is refl

pub turns_whole : (n t : ℕ) (lists : Open) (c : CCell) (cells : List CCell) (i : List ℕ) → t < n → lists ≡ [] → whole_list c ≡ Some cells → turns (n - t) lists (Some c) i ≡ Some (cells, i)
turns_whole n t lists c cells i within none is =
    ap (λ f. turns f lists (Some c) i) (less t n within) ∙ ap (λ l. turns (suc (n - (t + 1))) l (Some c) i) none ∙ whole_turn (n - (t + 1)) c cells i is

bare_turn : (f : ℕ) (c : CCell) (i : List ℕ) → whole_list c ≡ None → turns (suc f) [] (Some c) i ≡ None
unfolding turns last_of
bare_turn f c i is = rw is refl

pub turns_bare : (n t : ℕ) (lists : Open) (c : CCell) (i : List ℕ) → t < n → lists ≡ [] → whole_list c ≡ None → turns (n - t) lists (Some c) i ≡ None
turns_bare n t lists c i within none is =
    ap (λ f. turns f lists (Some c) i) (less t n within) ∙ ap (λ l. turns (suc (n - (t + 1))) l (Some c) i) none ∙ bare_turn (n - (t + 1)) c i is

turns_none : (lists : Open) (pending : Option CCell) (i : List ℕ) → turns 0 lists pending i ≡ None
unfolding turns
turns_none lists pending i = refl

pub turns_done : (n t : ℕ) (lists : Open) (pending : Option CCell) (i : List ℕ) → n ≤ t → turns (n - t) lists pending i ≡ None
turns_done n t lists pending i done =
    let none : n - t ≡ 0 = omega arith in
    ap (λ f. turns f lists pending i) none ∙ turns_none lists pending i
