-- The numbers of a row are below its end.
use Rattle.std.proofs.Common.{◌≡◌, ◌<◌, ℕ, zero, suc, ◌+◌, List, [], ◌∷◌, length, map, get_or, sum, arith}
use Rattle.std.specs.List.{fold}
use Rattle.rpy_tree.specs.declared.program.Program.{Program}
use Rattle.flow_graph.specs.declared.graph.Graphs.{Graphs}
use Rattle.class_desc.specs.Tables.{Tables}
use Rattle.ann_needs.specs.View.{place, place_in}
use Rattle.ann_layout.specs.Callees.{callees}
use Rattle.ann_layout.specs.Layout.{numbers, rows, declared_count, param_count, variable_count, block_count, planned}
use Rattle.ann_places.specs.Placed.{count_of, ArePlaced}

in_row : (count n i : ℕ) → i < count → place (numbers n count) i < n + count
in_row zero n i lt = absurd (omega (arith, lt))
in_row (suc count) n zero lt = omega arith
in_row (suc count) n (suc i) lt =
    let rest : place (numbers (suc n) count) i < suc n + count = in_row count (suc n) i (omega (arith, lt)) in omega (arith, rest)

more : (n : ℕ) (xs : List ℕ) → fold ◌+◌ n xs ≡ n + fold ◌+◌ 0 xs
more n [] = omega arith
more n (x ∷ xs) =
    let one : fold ◌+◌ (n + x) xs ≡ (n + x) + fold ◌+◌ 0 xs = more (n + x) xs in
    let other : fold ◌+◌ (0 + x) xs ≡ (0 + x) + fold ◌+◌ 0 xs = more (0 + x) xs in
    omega (arith, one, other)

sum_more : (c : ℕ) (cs : List ℕ) → sum (c ∷ cs) ≡ c + sum cs
sum_more c cs = let whole : fold ◌+◌ (0 + c) cs ≡ (0 + c) + fold ◌+◌ 0 cs = more (0 + c) cs in omega (arith, whole)

in_rows : (counts : List ℕ) (n g i : ℕ) → i < count_of counts g → place_in (rows n counts) g i < n + sum counts
in_rows [] n g i lt = absurd (omega (arith, lt))
in_rows (c ∷ cs) n zero i lt = let row : place (numbers n c) i < n + c = in_row c n i lt in
    omega (arith, row, sum_more c cs)
in_rows (c ∷ cs) n (suc g) i lt = let rest : place_in (rows (n + c) cs) g i < (n + c) + sum cs = in_rows cs (n + c) g i lt in
    omega (arith, rest, sum_more c cs)

pub placed : (p : Program) (gs : Graphs) (t : Tables) → ArePlaced p gs t (planned p gs t)
placed p gs t =
    let params : List ℕ = map param_count (callees p) in
    let variables : List ℕ = map variable_count gs.graphs in
    let blocks : List ℕ = map block_count gs.graphs in
    let functions : ℕ = length (callees p) in
    let declared : ℕ = declared_count t 0 (length t.classes) in
    record {
      params = λ f i lt. omega (arith, in_rows params 0 f i lt);
      results = λ f lt. omega (arith, in_row functions (0 + sum params) f lt);
      items = λ s lt. omega (arith, in_row (length p.sites) (0 + sum params + functions + declared) s lt);
      keys = λ s lt. omega (arith, in_row (length p.sites) (0 + sum params + functions + declared + length p.sites) s lt);
      variables = λ g v lt. in_rows variables (0 + sum params + functions + declared + length p.sites + length p.sites) g v lt;
      reached = λ f lt. omega (arith, in_row functions 0 f lt);
      made = λ c lt. omega (arith, in_row (length t.classes) (0 + functions) c lt);
      loaded = λ s lt. omega (arith, in_row (length p.sites) (0 + functions + length t.classes) s lt);
      blocks = λ g b lt. omega (arith, in_rows blocks (0 + functions + length t.classes + length p.sites) g b lt);
      loose = λ g v lt. omega (arith, in_rows variables (0 + functions + length t.classes + length p.sites + sum blocks) g v lt);
      unbound = λ n lt. in_row (length p.uses) (0 + functions + length t.classes + length p.sites + sum blocks + sum variables) n lt;
    }
