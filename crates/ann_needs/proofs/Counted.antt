-- The methods of the classes from one on are its own and those of the next.
use Rattle.std.proofs.Common.{◌≡◌, ◌<◌, ℕ, suc, ◌+◌, ◌-◌, List, ◌++◌, ap, sym, ◌∙◌, append_assoc, arith}
use Rattle.ann_lattice.specs.Assign.{Assignment}
use Rattle.ann_rules.specs.Program.{Whole}
use Rattle.ann_rules.specs.Asks.{method_of, methods_from}

pub one_more : (p : Whole) (a : Assignment) (d : ℕ) (name : List ℕ) (c n : ℕ) → c < n
    → methods_from p a d name c (n - c) ≡ method_of p a d name c ++ methods_from p a d name (c + 1) (n - (c + 1))
one_more p a d name c n lt =
    let one : n - c ≡ suc (n - (c + 1)) = omega (arith, lt) in
    let next : suc c ≡ c + 1 = omega arith in
    ap (methods_from p a d name c) one ∙ ap (λ i. method_of p a d name c ++ methods_from p a d name i (n - (c + 1))) next

pub kept : (p : Whole) (a : Assignment) (d : ℕ) (name : List ℕ) (c n : ℕ) (found new all : List (ℕ × ℕ)) → c < n
    → found ++ methods_from p a d name c (n - c) ≡ all → new ≡ found ++ method_of p a d name c
    → new ++ methods_from p a d name (c + 1) (n - (c + 1)) ≡ all
kept p a d name c n found new all lt h e =
    ap (λ x. x ++ methods_from p a d name (c + 1) (n - (c + 1))) e
    ∙ append_assoc found (method_of p a d name c) (methods_from p a d name (c + 1) (n - (c + 1)))
    ∙ sym (ap (λ x. found ++ x) (one_more p a d name c n lt))
    ∙ h
