-- Files and lines of nodes by the numbering.
use Rattle.std.proofs.Common.{◌≡◌, ℕ, ◌+◌, ◌-◌, ◌<◌, ◌≤◌, suc, List, [], ◌∷◌, ◌++◌, length, ap, ◌∙◌, refl, arith, cond, true, false}
use Rattle.std.specs.Prelude.{nat_lt}
use Rattle.std.specs.List.{AllByRecursion, fold}
use Rattle.std.proofs.lemmas.Grind.{common_steps}
use Rattle.rpy_tree.specs.Places.{node_count, node_file, node_line, line_in}
use Rattle.rpy_tree.specs.declared.syntax.Module.{Module}
use Rattle.rpy_nodes.specs.declared.listing.Named.{Named}
use Rattle.names_rules.specs.Members.{module_nodes, modules_nodes}
use Rattle.names_rules.specs.Laws.{modules, IsCounted, StandsIn}

below_true : (a b : ℕ) → a < b → nat_lt a b ≡ true
below_true a b h = grind (arith, common_steps)

above_false : (a b : ℕ) → b ≤ a → nat_lt a b ≡ false
above_false a b h = grind (arith, common_steps)

nothing_after : (n : ℕ) → n ≡ n + 0
nothing_after n = omega arith

one_after : (a nodes counted rest : ℕ) → nodes ≡ counted → (a + nodes) + rest ≡ a + (counted + rest)
one_after a nodes counted rest e = omega arith

counts_from : (ms : List Named) (a : ℕ) → AllByRecursion IsCounted ms → fold {A = Module} {B = ℕ} (λ n m. n + m.nodes) a (modules ms) ≡ a + modules_nodes ms
counts_from [] a all = nothing_after a
counts_from (m ∷ ms) a all = counts_from ms (a + m.module.nodes) all.1 ∙ one_after a m.module.nodes (module_nodes m.module.members) (modules_nodes ms) all.0

from_zero : (n : ℕ) → 0 + n ≡ n
from_zero n = omega arith

pub counts : (ms : List Named) → AllByRecursion IsCounted ms → node_count (modules ms) ≡ modules_nodes ms
counts ms all = counts_from ms 0 all ∙ from_zero (modules_nodes ms)

file_here : (m : Named) (rest : List Named) (n : ℕ) → n < m.module.nodes → node_file (modules (m ∷ rest)) n ≡ 0
file_here m rest n h = ap (λ b. cond b 0 (suc (node_file (modules rest) (n - m.module.nodes)))) (below_true n m.module.nodes h)

line_here : (m : Named) (rest : List Named) (n : ℕ) → n < m.module.nodes → node_line (modules (m ∷ rest)) n ≡ line_in m.module n
line_here m rest n h = ap (λ b. cond b (line_in m.module n) (node_line (modules rest) (n - m.module.nodes))) (below_true n m.module.nodes h)

file_after : (b : Named) (rest : List Named) (n k : ℕ) → n ≡ b.module.nodes + k → node_file (modules (b ∷ rest)) n ≡ suc (node_file (modules rest) k)
file_after b rest n k e = let le : b.module.nodes ≤ n = omega arith in let d : n - b.module.nodes ≡ k = omega arith in
    ap (λ t. cond t 0 (suc (node_file (modules rest) (n - b.module.nodes)))) (above_false n b.module.nodes le) ∙ ap (λ j. suc (node_file (modules rest) j)) d

line_after : (b : Named) (rest : List Named) (n k : ℕ) → n ≡ b.module.nodes + k → node_line (modules (b ∷ rest)) n ≡ node_line (modules rest) k
line_after b rest n k e = let le : b.module.nodes ≤ n = omega arith in let d : n - b.module.nodes ≡ k = omega arith in
    ap (λ t. cond t (line_in b.module n) (node_line (modules rest) (n - b.module.nodes))) (above_false n b.module.nodes le) ∙ ap (λ j. node_line (modules rest) j) d

files : (before rest : List Named) (m : Named) → AllByRecursion IsCounted (before ++ m ∷ rest) → (n i : ℕ) → n ≡ modules_nodes before + i → i < module_nodes m.module.members → node_file (modules (before ++ m ∷ rest)) n ≡ length before
files [] rest m all n i e h = let c : m.module.nodes ≡ module_nodes m.module.members = all.0 in let lt : n < m.module.nodes = omega arith in file_here m rest n lt
files (b ∷ before) rest m all n i e h = let c : b.module.nodes ≡ module_nodes b.module.members = all.0 in let k : n ≡ b.module.nodes + (modules_nodes before + i) = omega arith in
    file_after b (before ++ m ∷ rest) n (modules_nodes before + i) k ∙ ap suc (files before rest m all.1 (modules_nodes before + i) i refl h)

lines : (before rest : List Named) (m : Named) → AllByRecursion IsCounted (before ++ m ∷ rest) → (n i : ℕ) → n ≡ modules_nodes before + i → i < module_nodes m.module.members → node_line (modules (before ++ m ∷ rest)) n ≡ line_in m.module i
lines [] rest m all n i e h = let c : m.module.nodes ≡ module_nodes m.module.members = all.0 in let lt : n < m.module.nodes = omega arith in let same : n ≡ i = omega arith in
    line_here m rest n lt ∙ ap (line_in m.module) same
lines (b ∷ before) rest m all n i e h = let c : b.module.nodes ≡ module_nodes b.module.members = all.0 in let k : n ≡ b.module.nodes + (modules_nodes before + i) = omega arith in
    line_after b (before ++ m ∷ rest) n (modules_nodes before + i) k ∙ lines before rest m all.1 (modules_nodes before + i) i refl h

pub stands : (before rest : List Named) (m : Named) → AllByRecursion IsCounted (before ++ m ∷ rest) → (i : ℕ) → i < module_nodes m.module.members → StandsIn before m rest i
stands before rest m all i h = (files before rest m all (modules_nodes before + i) i refl h, lines before rest m all (modules_nodes before + i) i refl h)
