-- The least fault of the operations of a program.
use Rattle.std.proofs.Common.{◌≡◌, ◌+◌, ◌<◌, ◌≤◌, ◌⊎◌, inl, inr, ℕ, zero, suc, Bool, true, false, List, [], ◌∷◌, length, map, Option, None, refl, sym, ap, ◌∙◌, subst, arith}
use Rattle.std.specs.Prelude.{◌==◌, ◌&&◌, ◌||◌, not, if◌then◌else◌, slice_get}
use Rattle.std.proofs.lemmas.Bool.{false≢true, eqb-true, eq-eqb}
use Rattle.std.proofs.lemmas.List.{length-map}
use Rattle.rpy_tree.specs.declared.program.Program.{Program}
use Rattle.rpy_meaning.specs.declared.row.RowOp.{RowOp}
use Rattle.rpy_meaning.specs.declared.row.RowOp.TheVariants as row
use Rattle.flow_graph.specs.declared.graph.Op.{Op}
use Rattle.flow_graph.specs.declared.graph.Block.{Block}
use Rattle.flow_graph.specs.declared.graph.Graph.{Graph}
use Rattle.flow_graph.specs.declared.graph.Graphs.{Graphs}
use Rattle.class_desc.specs.Tables.{Tables}
use Rattle.ann_element.specs.Sites.{leader}
use Rattle.ann_element.specs.declared.element.Element.{Element}
use Rattle.ann_element.specs.declared.annotation.Annotation.{Annotation}
use Rattle.ann_lattice.specs.Kind.{is_nothing, some_nothing}
use Rattle.ann_lattice.specs.Laws.{IsFormed}
use Rattle.ann_lattice.specs.Shape.{Shape}
use Rattle.ann_lattice.specs.Assign.{Assignment, at, mark}
use Rattle.ann_layout.specs.Layout.{numbers, plan}
use Rattle.ann_needs.specs.View.{nowhere, whole, assignment}
use Rattle.ann_needs.specs.declared.plan.Places.{Places}
use Rattle.ann_needs.specs.declared.state.State.{State}
use Rattle.ann_rules.specs.Program.{Whole}
use Rattle.ann_rules.specs.Rules.{value, goes_on, is_narrowing}
use Rattle.ann_settled.specs.Read.{annotation, mark as read_mark}
use Rattle.ann_laws.proofs.Pairs.{and_left, and_right, or_first, or_second}
use Rattle.ann_tree.specs.Faults.{Flaw, OfConstant, OfFamily, shows, fit, called, given, modifies, some_first, may_be_constant}
use Rattle.ann_read.specs.Reading.{op_shows, ops_show, blocks_show, graphs_show}
use Rattle.rtyper_core.specs.Arity.{arities}
use Rattle.rtyper_core.specs.Call.{reach, fits}
use Rattle.rtyper_core.specs.Fault.{number, lesser, fault_if}
use Rattle.rtyper_core.specs.Modify.{prebuilt, is_marked, modifies_prebuilt, may_be_prebuilt_at}
use Rattle.rtyper_core.specs.Typing.{elements_at, marks_at, narrows, stops, some_unreached, op_fault, ops_fault, block_fault, blocks_fault, graph_fault, graphs_fault}
use Rattle.rtyper_core.specs.declared.fault.Fault.{Fault}
use Rattle.rtyper_core.specs.declared.fault.FaultKind.{FaultKind}
use Rattle.rtyper_core.specs.declared.fault.FaultKind.TheVariants as kind
use Rattle.rtyper_core.specs.declared.least.Facts.{Facts}
use Rattle.typing_laws.proofs.Lesser.{IsLeast, at_one_node, alike, either}
use Rattle.typing_laws.proofs.Operands.{seen, reads, unreached_is, unreached_are, first_is, modifies_is, constant_is}
use Rattle.typing_laws.proofs.Calls.{fits_are}
use Rattle.typing_laws.proofs.Cells.{mark_seen, variable_seen, block_seen}
use Rattle.typing_laws.proofs.Methods.{AreMade}

-- ---- faults of operations

abbrev pub ShownAs : (Flaw → ℕ → Bool) → ℕ → FaultKind → Type 0
ShownAs shown node kind.ConstantModified = shown OfConstant node ≡ true
ShownAs shown node kind.MaybeUnbound = ⊥
ShownAs shown node kind.Family = shown OfFamily node ≡ true
ShownAs shown node kind.EntryResult = ⊥

abbrev pub Shown : (Flaw → ℕ → Bool) → Fault → Type 0
Shown shown x = ShownAs shown x.node x.kind

or_either : (b c : Bool) → (b || c) ≡ true → (b ≡ true) ⊎ (c ≡ true)
or_either true c h = inl refl
or_either false c h = inr h

split : (one other : Flaw → ℕ → Bool) (node : ℕ) (k : FaultKind) → ShownAs (λ flaw n. one flaw n || other flaw n) node k → ShownAs one node k ⊎ ShownAs other node k
split one other node kind.ConstantModified h = or_either (one OfConstant node) (other OfConstant node) h
split one other node kind.MaybeUnbound h = inl h
split one other node kind.Family h = or_either (one OfFamily node) (other OfFamily node) h
split one other node kind.EntryResult h = inl h

first_shown : (one other : Flaw → ℕ → Bool) (node : ℕ) (k : FaultKind) → ShownAs one node k → ShownAs (λ flaw n. one flaw n || other flaw n) node k
first_shown one other node kind.ConstantModified h = or_first (one OfConstant node) (other OfConstant node) h
first_shown one other node kind.MaybeUnbound h = h
first_shown one other node kind.Family h = or_first (one OfFamily node) (other OfFamily node) h
first_shown one other node kind.EntryResult h = h

second_shown : (one other : Flaw → ℕ → Bool) (node : ℕ) (k : FaultKind) → ShownAs other node k → ShownAs (λ flaw n. one flaw n || other flaw n) node k
second_shown one other node kind.ConstantModified h = or_second (one OfConstant node) (other OfConstant node) h
second_shown one other node kind.MaybeUnbound h = h
second_shown one other node kind.Family h = or_second (one OfFamily node) (other OfFamily node) h
second_shown one other node kind.EntryResult h = h

none_shown : (shown : Flaw → ℕ → Bool) → ((flaw : Flaw) (n : ℕ) → shown flaw n ≡ false) → (node : ℕ) (k : FaultKind) → ShownAs shown node k → ⊥
none_shown shown none node kind.ConstantModified h = false≢true (sym (none OfConstant node) ∙ h)
none_shown shown none node kind.MaybeUnbound h = h
none_shown shown none node kind.Family h = false≢true (sym (none OfFamily node) ∙ h)
none_shown shown none node kind.EntryResult h = h

shown_same : (one other : Flaw → ℕ → Bool) → ((flaw : Flaw) (n : ℕ) → one flaw n ≡ other flaw n) → (node : ℕ) (k : FaultKind) → ShownAs one node k → ShownAs other node k
shown_same one other same node kind.ConstantModified h = sym (same OfConstant node) ∙ h
shown_same one other same node kind.MaybeUnbound h = h
shown_same one other same node kind.Family h = sym (same OfFamily node) ∙ h
shown_same one other same node kind.EntryResult h = h

-- those of one, of another, and of a third that is shown as the second
merged : (o : Option Fault) (S : Fault → Type 0) (one other third : Flaw → ℕ → Bool) → ((flaw : Flaw) (n : ℕ) → other flaw n ≡ third flaw n)
    → IsLeast o (λ x. (S x ⊎ Shown one x) ⊎ Shown other x) → IsLeast o (λ x. S x ⊎ Shown (λ flaw n. one flaw n || third flaw n) x)
merged o S one other third same h =
    alike o (λ x. (S x ⊎ Shown one x) ⊎ Shown other x) (λ x. S x ⊎ Shown (λ flaw n. one flaw n || third flaw n) x)
    (λ x i. elim i [
      | inl j ↦ elim j [ inl k ↦ inl k | inr k ↦ inr (first_shown one third x.node x.kind k) ]
      | inr j ↦ inr (second_shown one third x.node x.kind (shown_same other third same x.node x.kind j))
    ])
    (λ x i. elim i [
      | inl j ↦ inl (inl j)
      | inr j ↦ elim (split one third x.node x.kind j) [ inl k ↦ inl (inr k) | inr k ↦ inr (shown_same third other (λ flaw n. sym (same flaw n)) x.node x.kind k) ]
    ]) h

-- ---- one operation

abbrev pick : Flaw → Bool → Bool → Bool
pick OfConstant b c = b
pick OfFamily b c = c

abbrev by_tests : Bool → Bool → Bool → ℕ → Option Fault
by_tests none b c node = if none then None else if b then fault_if true node kind.ConstantModified else fault_if c node kind.Family

abbrev at_node : ℕ → Bool → Bool → Bool → Flaw → ℕ → Bool
at_node node none b c flaw n = (node == n) && (not none && pick flaw b c)

here : (node n : ℕ) (rest : Bool) → ((node == n) && rest) ≡ true → node ≡ n
here node n rest h = eqb-true node n (and_left (node == n) rest h)

never : (node n : ℕ) (rest : Bool) → rest ≡ false → ((node == n) && rest) ≡ true → ⊥
never node n rest off h = false≢true (sym off ∙ and_right (node == n) rest h)

one_number : (k : FaultKind) → number kind.ConstantModified ≤ number k
one_number kind.ConstantModified = omega arith
one_number kind.MaybeUnbound = omega arith
one_number kind.Family = omega arith
one_number kind.EntryResult = omega arith

one_op : (none b c : Bool) (node : ℕ) → IsLeast (by_tests none b c node) (Shown (at_node node none b c))
one_op true b c node = λ x h. none_shown (at_node node true b c) (λ flaw n. off (node == n)) x.node x.kind h
  where
    off : (d : Bool) → (d && false) ≡ false
    off true = refl
    off false = refl
one_op false true c node = (ap (λ d. d && true) (eq-eqb node node refl), λ x h. at_one_node (record { node = node; kind = kind.ConstantModified }) x (same x.node x.kind h) (one_number x.kind))
  where
    same : (n : ℕ) (k : FaultKind) → ShownAs (at_node node false true c) n k → node ≡ n
    same n kind.ConstantModified h = here node n true h
    same n kind.MaybeUnbound h = absurd h
    same n kind.Family h = here node n c h
    same n kind.EntryResult h = absurd h
one_op false false true node = (ap (λ d. d && true) (eq-eqb node node refl), λ x h. at_one_node (record { node = node; kind = kind.Family }) x (same x.node x.kind h) (least x.node x.kind h))
  where
    same : (n : ℕ) (k : FaultKind) → ShownAs (at_node node false false true) n k → node ≡ n
    same n kind.ConstantModified h = absurd (never node n false refl h)
    same n kind.MaybeUnbound h = absurd h
    same n kind.Family h = here node n true h
    same n kind.EntryResult h = absurd h

    least : (n : ℕ) (k : FaultKind) → ShownAs (at_node node false false true) n k → number kind.Family ≤ number k
    least n kind.ConstantModified h = absurd (never node n false refl h)
    least n kind.MaybeUnbound h = absurd h
    least n kind.Family h = omega arith
    least n kind.EntryResult h = absurd h
one_op false false false node = λ x h. none x.node x.kind h
  where
    none : (n : ℕ) (k : FaultKind) → ShownAs (at_node node false false false) n k → ⊥
    none n kind.ConstantModified h = never node n false refl h
    none n kind.MaybeUnbound h = h
    none n kind.Family h = never node n false refl h
    none n kind.EntryResult h = h

narrows_is : (o : RowOp) → narrows o ≡ is_narrowing o
narrows_is row.DropNone = refl
narrows_is row.OnlyNone = refl
narrows_is row.FalseNone = refl
narrows_is (row.Lower c) = refl
narrows_is row.NonNegative = refl
narrows_is _ = refl

or_not : (b c : Bool) → (c || not b) ≡ not (b && not c)
or_not true true = refl
or_not true false = refl
or_not false true = refl
or_not false false = refl

numbers_long : (n count : ℕ) → length (numbers n count) ≡ count
numbers_long n zero = refl
numbers_long n (suc count) = ap suc (numbers_long (suc n) count)

-- ---- all of them

module _ (p : Program) (gs : Graphs) (t : Tables) (nodes : List Element) (s : State) (few_cells : length s.cells ≤ nowhere) (few_marks : length s.marks ≤ nowhere)
    (inside : (i : ℕ) → leader s.same i < length p.sites) (formed : (c : ℕ) → IsFormed (at (assignment s) c)) where
  abbrev pub W : Whole
  W = whole (plan p gs t)

  abbrev pub w : Assignment
  w = assignment s

  abbrev P : Places
  P = (plan p gs t).places

  abbrev pub N : Annotation
  N = annotation s t nodes P

  abbrev pub facts : Facts
  facts = record { arities = arities p.modules; prebuilt = prebuilt N.same p.sites }

  long : length N.made ≡ length t.classes
  long = length-map P.made (read_mark s) ∙ numbers_long _ (length t.classes)

  made_are : AreMade W w [] 0 0 N.made
  made_are i lt = let z : 0 + i ≡ i = omega arith in mark_seen s few_cells few_marks P.made i ∙ ap (λ j. mark w (W.places.made j)) (sym z)

  -- ---- a graph

  module _ (g : ℕ) where
    abbrev es : List Element
    es = elements_at N.vars g

    var_is : (v : ℕ) → seen (slice_get es v) ≡ value W w g v
    var_is v = variable_seen s few_cells few_marks P.variables g v

    reads_are : (args : List ℕ) → reads es args ≡ map (value W w g) args
    reads_are [] = refl
    reads_are (v ∷ vs) = λ j. var_is v j ∷ reads_are vs j

    es_formed : (v : ℕ) → IsFormed (seen (slice_get es v))
    es_formed v = subst IsFormed (sym (var_is v)) (formed (W.places.variable g v))

    module _ (op : Op) where
      abbrev xs : List Shape
      xs = map (value W w g) op.args

      constant_shown : modifies_prebuilt facts.prebuilt N.same es op ≡ shows W w OfConstant op.value op.op xs
      constant_shown =
          (λ j. modifies_is es op.value op.op op.args j && first_is es (may_be_prebuilt_at (prebuilt w.same p.sites) w.same) (may_be_constant W w) refl (constant_is W w inside) op.args j)
          ∙ ap (λ ys. modifies op.value op.op ys && some_first (may_be_constant W w) ys) (reads_are op.args)

      family_shown : not (fits facts.arities (reach t N.made es op)) ≡ shows W w OfFamily op.value op.op xs
      family_shown = ap not (fits_are p gs t w N.made made_are long es es_formed op.op op.args) ∙ ap (λ ys. not (fit W.callees (called W w op.op ys) (given op.op ys))) (reads_are op.args)

      none_reached : some_unreached es op.args ≡ some_nothing xs
      none_reached = unreached_are es op.args ∙ ap some_nothing (reads_are op.args)

      op_is : op_fault facts t N es op ≡ by_tests (some_nothing xs) (shows W w OfConstant op.value op.op xs) (shows W w OfFamily op.value op.op xs) op.node
      op_is = λ j. if none_reached j then None else if constant_shown j then fault_if true op.node kind.ConstantModified else fault_if (family_shown j) op.node kind.Family

      abbrev OfOp : Flaw → ℕ → Bool
      OfOp flaw node = op_shows W w flaw node g op

      op_least : IsLeast (op_fault facts t N es op) (Shown OfOp)
      op_least =
          subst (λ o. IsLeast o (Shown OfOp)) (sym op_is)
          (alike (by_tests none b c op.node) (Shown (at_node op.node none b c)) (Shown OfOp)
          (λ x h. shown_same (at_node op.node none b c) OfOp same x.node x.kind h) (λ x h. shown_same OfOp (at_node op.node none b c) (λ flaw n. sym (same flaw n)) x.node x.kind h) (one_op none b c op.node))
        where
          none : Bool
          none = some_nothing xs

          b : Bool
          b = shows W w OfConstant op.value op.op xs

          c : Bool
          c = shows W w OfFamily op.value op.op xs

          same : (flaw : Flaw) (n : ℕ) → at_node op.node none b c flaw n ≡ OfOp flaw n
          same OfConstant n = refl
          same OfFamily n = refl

      goes_is : goes_on W w g op ≡ not (stops es op)
      goes_is =
          or_not (is_nothing (value W w g op.result)) (is_narrowing op.op)
          ∙ ap not (λ j. (sym (ap is_nothing (var_is op.result)) ∙ sym (unreached_is (slice_get es op.result))) j && not (sym (narrows_is op.op) j))

    -- ---- the operations of a block

    abbrev OfOps : List Op → Flaw → ℕ → Bool
    OfOps ops flaw node = ops_show W w flaw node g ops

    abbrev Later : Op → List Op → Flaw → ℕ → Bool
    Later op ops flaw node = goes_on W w g op && ops_show W w flaw node g ops

    ops_least : (ops : List Op) (least : Option Fault) (S : Fault → Type 0) → IsLeast least S → IsLeast (ops_fault facts t N es ops least) (λ x. S x ⊎ Shown (OfOps ops) x)
    ops_least [] least S h = alike least S (λ x. S x ⊎ Shown (OfOps []) x) (λ x i. inl i) (λ x i. elim i [ inl j ↦ j | inr j ↦ absurd (none_shown (OfOps []) (λ flaw n. refl) x.node x.kind j) ]) h
    ops_least (op ∷ ops) least S h = by (stops es op) (goes_is op) (ops_least ops (lesser least (op_fault facts t N es op)) (λ x. S x ⊎ Shown (OfOp op) x) now)
      where
        now : IsLeast (lesser least (op_fault facts t N es op)) (λ x. S x ⊎ Shown (OfOp op) x)
        now = either least (op_fault facts t N es op) S (Shown (OfOp op)) h (op_least op)

        ended : goes_on W w g op ≡ false → (flaw : Flaw) (n : ℕ) → Later op ops flaw n ≡ false
        ended e flaw n = ap (λ c. c && ops_show W w flaw n g ops) e

        onward : goes_on W w g op ≡ true → (flaw : Flaw) (n : ℕ) → ops_show W w flaw n g ops ≡ Later op ops flaw n
        onward e flaw n = sym (ap (λ c. c && ops_show W w flaw n g ops) e)

        by : (c : Bool) → goes_on W w g op ≡ not c → IsLeast (ops_fault facts t N es ops (lesser least (op_fault facts t N es op))) (λ x. (S x ⊎ Shown (OfOp op) x) ⊎ Shown (OfOps ops) x)
            → IsLeast (if c then lesser least (op_fault facts t N es op) else ops_fault facts t N es ops (lesser least (op_fault facts t N es op))) (λ x. S x ⊎ Shown (OfOps (op ∷ ops)) x)
        by true e rest =
            alike (lesser least (op_fault facts t N es op)) (λ x. S x ⊎ Shown (OfOp op) x) (λ x. S x ⊎ Shown (OfOps (op ∷ ops)) x)
            (λ x i. elim i [ inl j ↦ inl j | inr j ↦ inr (first_shown (OfOp op) (Later op ops) x.node x.kind j) ])
            (λ x i. elim i [ inl j ↦ inl j | inr j ↦ elim (split (OfOp op) (Later op ops) x.node x.kind j) [ inl k ↦ inr k | inr k ↦ absurd (none_shown (Later op ops) (ended e) x.node x.kind k) ] ]) now
        by false e rest =
            merged (ops_fault facts t N es ops (lesser least (op_fault facts t N es op))) S (OfOp op) (OfOps ops) (Later op ops) (onward e) rest

    -- ---- its blocks

    abbrev reached : List Bool
    reached = marks_at N.blocks g

    abbrev OfBlock : ℕ → Block → Flaw → ℕ → Bool
    OfBlock n b flaw node = mark w (W.places.block g n) && ops_show W w flaw node g b.ops

    abbrev OfBlocks : ℕ → List Block → Flaw → ℕ → Bool
    OfBlocks n bs flaw node = blocks_show W w flaw node g n bs

    block_least : (n : ℕ) (b : Block) (least : Option Fault) (S : Fault → Type 0) → IsLeast least S → IsLeast (block_fault facts t N es (is_marked reached n) b least) (λ x. S x ⊎ Shown (OfBlock n b) x)
    block_least n b least S h = by (is_marked reached n) (sym (block_seen s few_cells few_marks P.blocks g n))
      where
        by : (c : Bool) → mark w (W.places.block g n) ≡ c → IsLeast (if not c then least else ops_fault facts t N es b.ops least) (λ x. S x ⊎ Shown (OfBlock n b) x)
        by false e =
            alike least S (λ x. S x ⊎ Shown (OfBlock n b) x) (λ x i. inl i)
            (λ x i. elim i [ inl j ↦ j | inr j ↦ absurd (none_shown (OfBlock n b) (λ flaw m. ap (λ c. c && ops_show W w flaw m g b.ops) e) x.node x.kind j) ]) h
        by true e =
            alike (ops_fault facts t N es b.ops least) (λ x. S x ⊎ Shown (OfOps b.ops) x) (λ x. S x ⊎ Shown (OfBlock n b) x)
            (λ x i. elim i [ inl j ↦ inl j | inr j ↦ inr (shown_same (OfOps b.ops) (OfBlock n b) (λ flaw m. sym (ap (λ c. c && ops_show W w flaw m g b.ops) e)) x.node x.kind j) ])
            (λ x i. elim i [ inl j ↦ inl j | inr j ↦ inr (shown_same (OfBlock n b) (OfOps b.ops) (λ flaw m. ap (λ c. c && ops_show W w flaw m g b.ops) e) x.node x.kind j) ]) (ops_least b.ops least S h)

    pub blocks_least : (n : ℕ) (bs : List Block) (least : Option Fault) (S : Fault → Type 0) → IsLeast least S → IsLeast (blocks_fault facts t N es reached n bs least) (λ x. S x ⊎ Shown (OfBlocks n bs) x)
    blocks_least n [] least S h = alike least S (λ x. S x ⊎ Shown (OfBlocks n []) x) (λ x i. inl i) (λ x i. elim i [ inl j ↦ j | inr j ↦ absurd (none_shown (OfBlocks n []) (λ flaw m. refl) x.node x.kind j) ]) h
    blocks_least n (b ∷ bs) least S h =
        let next : n + 1 ≡ suc n = omega arith in
        let now = block_fault facts t N es (is_marked reached n) b least in
        merged (blocks_fault facts t N es reached (n + 1) bs now) S (OfBlock n b) (OfBlocks (n + 1) bs) (OfBlocks (suc n) bs) (λ flaw m. ap (λ i. blocks_show W w flaw m g i bs) next)
        (blocks_least (n + 1) bs now (λ x. S x ⊎ Shown (OfBlock n b) x) (block_least n b least S h))

  -- ---- all graphs

  abbrev pub OfGraphs : ℕ → List Graph → Flaw → ℕ → Bool
  OfGraphs n graphs flaw node = graphs_show W w flaw node n graphs

  pub graphs_least : (n : ℕ) (graphs : List Graph) (least : Option Fault) (S : Fault → Type 0) → IsLeast least S → IsLeast (graphs_fault facts t N n graphs least) (λ x. S x ⊎ Shown (OfGraphs n graphs) x)
  graphs_least n [] least S h = alike least S (λ x. S x ⊎ Shown (OfGraphs n []) x) (λ x i. inl i) (λ x i. elim i [ inl j ↦ j | inr j ↦ absurd (none_shown (OfGraphs n []) (λ flaw m. refl) x.node x.kind j) ]) h
  graphs_least n (graph ∷ graphs) least S h =
      let next : n + 1 ≡ suc n = omega arith in
      let now = graph_fault facts t N n graph least in
      merged (graphs_fault facts t N (n + 1) graphs now) S (OfBlocks n 0 graph.blocks) (OfGraphs (n + 1) graphs) (OfGraphs (suc n) graphs) (λ flaw m. ap (λ i. graphs_show W w flaw m i graphs) next)
      (graphs_least (n + 1) graphs now (λ x. S x ⊎ Shown (OfBlocks n 0 graph.blocks) x) (blocks_least n 0 graph.blocks least S h))
