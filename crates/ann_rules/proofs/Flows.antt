-- What operations, links, exits and blocks ask.
use Rattle.std.proofs.Common.{◌≡◌, ◌<◌, ◌≤◌, ℕ, zero, suc, Bool, true, false, List, [], ◌∷◌, ◌++◌, length, map, Option, Some, None, refl, sym, ap, ◌∙◌, subst, ◌⊎◌, inl, inr}
use Rattle.std.specs.Prelude.{◌&&◌, ◌||◌, not, if◌then◌else◌, slice_get, is_some, ◌==◌}
use Rattle.rpy_tree.specs.declared.program.ClassInfo.{ClassInfo}
use Rattle.rpy_meaning.specs.declared.row.RowOp.{RowOp}
use Rattle.rpy_meaning.specs.declared.row.RowOp.TheVariants as op
use Rattle.class_desc.specs.Line as line
use Rattle.flow_graph.specs.declared.graph.Link.{Link}
use Rattle.flow_graph.specs.declared.graph.Exit.{Exit}
use Rattle.flow_graph.specs.declared.graph.Exit.TheVariants as exit
use Rattle.flow_graph.specs.declared.graph.Op.{Op}
use Rattle.flow_graph.specs.declared.graph.Block.{Block}
use Rattle.flow_graph.specs.declared.graph.Graph.{Graph}
use Rattle.ann_lattice.specs.Shape.{Width, One, Any, OrNone, Shape, Nothing, NoneOnly, Truth, Num, Str, Tup, Lst, Dct, Inst, Fun, Clash}
use Rattle.ann_lattice.specs.Order.{LessKnown, Below, least, none, none_str, none_list, none_dict, none_inst, none_fun, truth, num, str, tuple, list, dict, inst, fun, clash}
use Rattle.ann_lattice.specs.Join.{is_clash}
use Rattle.ann_lattice.specs.Assign.{Assignment, at, mark, Need, Up, Set, Under, Holds}
use Rattle.ann_lattice.specs.Kind.{misfit, is_nothing, some_nothing, some_clash}
use Rattle.ann_lattice.specs.Row.{pieces, fitting}
use Rattle.ann_lattice.proofs.Ordered.{below_self}
use Rattle.ann_laws.specs.Rows.{Operands}
use Rattle.ann_laws.proofs.Pairs.{no, yes, and_left, and_right}
use Rattle.ann_laws.proofs.Equal.{nothing_down}
use Rattle.ann_laws.proofs.Containers.{AllPairs}
use Rattle.ann_laws.proofs.Calls.{no_misfit, above_clash}
use Rattle.ann_laws.proofs.Whole.{pieces_down, pairs_of, nothing_all, none_clash}
use Rattle.ann_rules.specs.Program.{Whole}
use Rattle.ann_rules.specs.Asks.{when, from_each, parts, asks, tie}
use Rattle.ann_rules.specs.Rules as rule
use Rattle.ann_rules.specs.Hold.{AllHold}
use Rattle.ann_rules.proofs.Facts.{hold_append, hold_left, hold_right, hold_both, hold_each, hold_when, Facts, up_down, tie_down}
use Rattle.ann_rules.proofs.Asked.{under_append, under_left, under_right, Found, Matched, parts_matched, asks_down}

module _ (p : Whole) (a b : Assignment) (f : Facts p a b) (g : ℕ) where
  abbrev k : List ClassInfo
  k = p.tables.classes

  abbrev u : List ℕ
  u = b.same

  -- ---- operands

  operands_of : (vs : List ℕ) → Operands k u (map (rule.value p a g) vs) (map (rule.value p b g) vs)
  operands_of [] = tt
  operands_of (v ∷ vs) = ((f.less.cells (p.places.variable g v), f.formed (p.places.variable g v)), operands_of vs)

  -- ---- the pieces of a row, for each further part

  one_part : (o : RowOp) (xs ys : List Shape) (q z : Shape) (qs : List Shape) → Operands k u xs ys → is_clash z ≡ false → Found p a b f q qs
      → Under k u (rule.pieces_for p b g o ys qs) z → Under k u (pieces p.tables o xs q) z
  one_part o xs ys q z [] h i j l = absurd j
  one_part o xs ys q z (r ∷ qs) h i (inl j) l = pieces_down p.tables f.classes u o xs ys q r z h j i (under_left p a b f (pieces p.tables o ys r) (rule.pieces_for p b g o ys qs) z l)
  one_part o xs ys q z (r ∷ qs) h i (inr j) l = one_part o xs ys q z qs h i j (under_right p a b f (pieces p.tables o ys r) (rule.pieces_for p b g o ys qs) z l)

  all_parts : (o : RowOp) (xs ys : List Shape) (z : Shape) (qs rs : List Shape) → Operands k u xs ys → is_clash z ≡ false → Matched p a b f qs rs
      → Under k u (rule.pieces_for p b g o ys rs) z → Under k u (rule.pieces_for p a g o xs qs) z
  all_parts o xs ys z [] rs h i j l = tt
  all_parts o xs ys z (q ∷ qs) rs h i j l =
      under_append p a b f (pieces p.tables o xs q) (rule.pieces_for p a g o xs qs) z (one_part o xs ys q z rs h i j.0 l) (all_parts o xs ys z qs rs h i j.1 l)

  unfit_by : (o : RowOp) (xs ys : List Shape) (node : ℕ) → AllPairs k u xs ys → rule.is_unfit p a g o xs node ≡ rule.is_unfit p b g o ys node
  unfit_by (op.New c) [] [] node h = refl
  unfit_by (op.New c) [] (y ∷ ys) node h = absurd h
  unfit_by (op.New c) (x ∷ xs) [] node h = absurd h
  unfit_by (op.New c) (x ∷ xs) (y ∷ ys) node h = refl
  unfit_by o xs ys node h = refl

  module _ (o : RowOp) (xs ys : List Shape) (node : ℕ) (z : Shape) (h : Operands k u xs ys) (i : is_clash z ≡ false) (reached : some_nothing xs ≡ false) where
    abbrev choose : Bool → List Shape → List Shape
    choose c l = if c then misfit ∷ [] else l

    reached_too : (c : Bool) → some_nothing ys ≡ c → some_nothing ys ≡ false
    reached_too true e = absurd (no (sym reached ∙ nothing_all p.tables f.classes u xs ys h e))
    reached_too false e = e

    -- the row fits the larger operands
    fits_by : (c : Bool) → some_clash ys ≡ c → Under k u (pieces p.tables o ys Nothing) z → some_clash ys ≡ false
    fits_by false e l = e
    fits_by true e l =
        let open_up : pieces p.tables o ys Nothing ≡ misfit ∷ [] =
        ap (λ n. if n then [] else if some_clash ys then misfit ∷ [] else fitting p.tables o ys Nothing) (reached_too (some_nothing ys) refl)
        ∙ ap (λ n. if n then misfit ∷ [] else fitting p.tables o ys Nothing) e in
        let bad = subst (λ m. Under k u m z) open_up l in
        absurd (no_misfit k u z i bad.0)

    opened : some_clash ys ≡ false → Under k u (pieces p.tables o ys Nothing) z → Under k u (fitting p.tables o ys Nothing) z
    opened e l =
        let open_up : pieces p.tables o ys Nothing ≡ fitting p.tables o ys Nothing =
        ap (λ n. if n then [] else if some_clash ys then misfit ∷ [] else fitting p.tables o ys Nothing) (reached_too (some_nothing ys) refl)
        ∙ ap (λ n. if n then misfit ∷ [] else fitting p.tables o ys Nothing) e in
        subst (λ m. Under k u m z) open_up l

    pairs_from : Under k u (pieces p.tables o ys Nothing) z → AllPairs k u xs ys
    pairs_from l = pairs_of p.tables f.classes u xs ys h reached (fits_by (some_clash ys) refl l)

    -- with no further part, and then with each
    fitted : Under k u (rule.pieces_for p b g o ys (Nothing ∷ parts p b o ys)) z → Under k u (rule.pieces_for p a g o xs (Nothing ∷ parts p a o xs)) z
    fitted l =
        let first : Under k u (pieces p.tables o ys Nothing) z = under_left p a b f (pieces p.tables o ys Nothing) (rule.pieces_for p b g o ys (parts p b o ys)) z l in
        let e : some_clash ys ≡ false = fits_by (some_clash ys) refl first in
        all_parts o xs ys z (Nothing ∷ parts p a o xs) (Nothing ∷ parts p b o ys) h i
        (inl (least Nothing), later (parts p a o xs) (parts p b o ys) (parts_matched p a b f o xs ys z (pairs_from first) i (opened e first))) l
      where
        later : (qs rs : List Shape) → Matched p a b f qs rs → Matched p a b f qs (Nothing ∷ rs)
        later [] rs j = tt
        later (q ∷ qs) rs j = (inr j.0, later qs rs j.1)

    unfit_case : (c : Bool) → rule.is_unfit p b g o ys node ≡ c → Under k u (rule.asked p b g o ys node) z → Under k u (rule.pieces_for p b g o ys (Nothing ∷ parts p b o ys)) z
    unfit_case true e l =
        let bad = subst (λ m. Under k u m z) (ap (λ n. choose n (rule.pieces_for p b g o ys (Nothing ∷ parts p b o ys))) e) l in
        absurd (no_misfit k u z i bad.0)
    unfit_case false e l = subst (λ m. Under k u m z) (ap (λ n. choose n (rule.pieces_for p b g o ys (Nothing ∷ parts p b o ys))) e) l

    fit_case : (c : Bool) → rule.is_unfit p b g o ys node ≡ c → Under k u (rule.asked p b g o ys node) z → rule.is_unfit p b g o ys node ≡ false
    fit_case true e l =
        let bad = subst (λ m. Under k u m z) (ap (λ n. choose n (rule.pieces_for p b g o ys (Nothing ∷ parts p b o ys))) e) l in
        absurd (no_misfit k u z i bad.0)
    fit_case false e l = e

    -- operands of what is asked fit each other
    pub pairs_asked : Under k u (rule.asked p b g o ys node) z → AllPairs k u xs ys
    pairs_asked l = pairs_from (under_left p a b f (pieces p.tables o ys Nothing) (rule.pieces_for p b g o ys (parts p b o ys)) z (unfit_case (rule.is_unfit p b g o ys node) refl l))

    pub asked_down : Under k u (rule.asked p b g o ys node) z → Under k u (rule.asked p a g o xs node) z
    asked_down l =
        let m : Under k u (rule.pieces_for p b g o ys (Nothing ∷ parts p b o ys)) z = unfit_case (rule.is_unfit p b g o ys node) refl l in
        let first : Under k u (pieces p.tables o ys Nothing) z = under_left p a b f (pieces p.tables o ys Nothing) (rule.pieces_for p b g o ys (parts p b o ys)) z m in
        let e : rule.is_unfit p a g o xs node ≡ false = unfit_by o xs ys node (pairs_from first) ∙ fit_case (rule.is_unfit p b g o ys node) refl l in
        subst (λ n. Under k u n z) (sym (ap (λ n. choose n (rule.pieces_for p a g o xs (Nothing ∷ parts p a o xs))) e)) (fitted m)

    pub asks_too : Under k u (rule.asked p b g o ys node) z → AllHold k b (asks p b o ys) → AllHold k b (asks p a o xs)
    asks_too l j =
        let m : Under k u (rule.pieces_for p b g o ys (Nothing ∷ parts p b o ys)) z = unfit_case (rule.is_unfit p b g o ys node) refl l in
        let first : Under k u (pieces p.tables o ys Nothing) z = under_left p a b f (pieces p.tables o ys Nothing) (rule.pieces_for p b g o ys (parts p b o ys)) z m in
        asks_down p a b f o xs ys z (pairs_from first) i (opened (fits_by (some_clash ys) refl first) first) j

  -- no piece is in conflict below what is free
  free_pieces : (l : List Shape) (z : Shape) → is_clash z ≡ false → Under k u l z → some_clash l ≡ false
  free_pieces [] z i h = refl
  free_pieces (x ∷ l) z i h = ap (λ c. c || some_clash l) (above_clash k u x z i h.0) ∙ free_pieces l z i h.1

  -- ---- operations

  marks_down : (m n : ℕ) → mark a m ≡ true → mark b m ≡ true
  marks_down m n e = f.less.marks m e

  loose_down : (vs : List ℕ) → rule.first_loose p a g vs ≡ true → rule.first_loose p b g vs ≡ true
  loose_down [] e = absurd (no e)
  loose_down (v ∷ vs) e = f.less.marks (p.places.loose g v) e

  loose_needs_down : (o : Op) → AllHold k b (rule.loose_needs p b g o) → AllHold k b (rule.loose_needs p a g o)
  loose_needs_down o h =
      hold_both k b
      (when (rule.is_copy o.op && rule.first_loose p a g o.args) (Set (p.places.unbound o.node) ∷ []))
      (when (rule.is_narrowing o.op && rule.first_loose p a g o.args) (Set (p.places.loose g o.result) ∷ []))
      (when (rule.is_copy o.op && rule.first_loose p b g o.args) (Set (p.places.unbound o.node) ∷ []))
      (when (rule.is_narrowing o.op && rule.first_loose p b g o.args) (Set (p.places.loose g o.result) ∷ []))
      (hold_when k b (rule.is_copy o.op && rule.first_loose p a g o.args) (rule.is_copy o.op && rule.first_loose p b g o.args) (Set (p.places.unbound o.node) ∷ []) (Set (p.places.unbound o.node) ∷ [])
      (more_loose (rule.is_copy o.op) o.args) (λ j. j))
      (hold_when k b (rule.is_narrowing o.op && rule.first_loose p a g o.args) (rule.is_narrowing o.op && rule.first_loose p b g o.args) (Set (p.places.loose g o.result) ∷ []) (Set (p.places.loose g o.result) ∷ [])
      (more_loose (rule.is_narrowing o.op) o.args) (λ j. j)) h
    where
      more_loose : (c : Bool) (vs : List ℕ) → (c && rule.first_loose p a g vs) ≡ true → (c && rule.first_loose p b g vs) ≡ true
      more_loose true vs e = loose_down vs e
      more_loose false vs e = absurd (no e)

  abbrev pub OpsFree : List Op → Type 0
  OpsFree [] = Unit {0}
  OpsFree (o ∷ os) = ((is_clash (at b (p.places.variable g o.result)) ≡ false) × (p.places.variable g o.result < length b.cells)) × OpsFree os

  not_down : (c d : Bool) → (d ≡ true → c ≡ true) → not c ≡ true → not d ≡ true
  not_down true d h e = absurd (no e)
  not_down false true h e = absurd (no (h refl))
  not_down false false h e = refl

  not_true : (c : Bool) → not c ≡ true → c ≡ false
  not_true true e = absurd (no e)
  not_true false e = refl

  reached_down : (o : Op) → is_clash (at b (p.places.variable g o.result)) ≡ false → p.places.variable g o.result < length b.cells → (xs ys : List Shape) → Operands k u xs ys → some_nothing xs ≡ false
      → AllHold k b (rule.reached_needs p b g o ys) → AllHold k b (rule.reached_needs p a g o xs)
  reached_down o i lt xs ys h r j =
      let z : Shape = at b (p.places.variable g o.result) in
      let l : Under k u (rule.asked p b g o.op ys o.node) z = j.0 lt in
      let low : Under k u (rule.asked p a g o.op xs o.node) z = asked_down o.op xs ys o.node z h i r l in (
        λ m. low,
        hold_when k b (not (some_clash (rule.asked p a g o.op xs o.node))) (not (some_clash (rule.asked p b g o.op ys o.node))) (asks p a o.op xs) (asks p b o.op ys)
            (λ e. ap not (free_pieces (rule.asked p b g o.op ys o.node) z i l)) (asks_too o.op xs ys o.node z h i r l) j.1,
      )

  by_reach : (o : Op) → is_clash (at b (p.places.variable g o.result)) ≡ false → p.places.variable g o.result < length b.cells → (xs ys : List Shape) → Operands k u xs ys → (c d : Bool) → some_nothing xs ≡ c → some_nothing ys ≡ d
      → AllHold k b (when (not (some_nothing ys)) (rule.reached_needs p b g o ys)) → AllHold k b (when (not (some_nothing xs)) (rule.reached_needs p a g o xs))
  by_reach o i lt xs ys h true d e m j = subst (λ c. AllHold k b (when (not c) (rule.reached_needs p a g o xs))) (sym e) tt
  by_reach o i lt xs ys h false true e m j = absurd (no (sym e ∙ nothing_all p.tables f.classes u xs ys h m))
  by_reach o i lt xs ys h false false e m j =
      subst (λ c. AllHold k b (when (not c) (rule.reached_needs p a g o xs))) (sym e)
      (reached_down o i lt xs ys h e (subst (λ c. AllHold k b (when (not c) (rule.reached_needs p b g o ys))) m j))

  op_down : (o : Op) → is_clash (at b (p.places.variable g o.result)) ≡ false → p.places.variable g o.result < length b.cells → AllHold k b (rule.op_needs p b g o) → AllHold k b (rule.op_needs p a g o)
  op_down o i lt j =
      hold_both k b (rule.loose_needs p a g o) (when (not (some_nothing (map (rule.value p a g) o.args))) (rule.reached_needs p a g o (map (rule.value p a g) o.args)))
      (rule.loose_needs p b g o) (when (not (some_nothing (map (rule.value p b g) o.args))) (rule.reached_needs p b g o (map (rule.value p b g) o.args)))
      (loose_needs_down o)
      (by_reach o i lt (map (rule.value p a g) o.args) (map (rule.value p b g) o.args) (operands_of o.args)
      (some_nothing (map (rule.value p a g) o.args)) (some_nothing (map (rule.value p b g) o.args)) refl refl) j

  goes_on_down : (o : Op) → rule.goes_on p a g o ≡ true → rule.goes_on p b g o ≡ true
  goes_on_down o e = by_narrow (rule.is_narrowing o.op) e
    where
      by_narrow : (c : Bool) → (c || not (is_nothing (rule.value p a g o.result))) ≡ true → (c || not (is_nothing (rule.value p b g o.result))) ≡ true
      by_narrow true e = refl
      by_narrow false e =
          not_down (is_nothing (rule.value p a g o.result)) (is_nothing (rule.value p b g o.result))
          (nothing_down k u (rule.value p a g o.result) (rule.value p b g o.result) (f.less.cells (p.places.variable g o.result))) e

  -- ---- links

  passed_down : (c : Option ℕ) (v input : ℕ) → AllHold k b (rule.passed p b g c v input) → AllHold k b (rule.passed p a g c v input)
  passed_down (Some c) v input h = h
  passed_down None v input h = (
    up_down p a b f (p.places.variable g input) (rule.value p a g v) (rule.value p b g v) (f.less.cells (p.places.variable g v)) h.0,
    hold_when k b (rule.may_be_unbound p a g v) (rule.may_be_unbound p b g v) (Set (p.places.loose g input) ∷ []) (Set (p.places.loose g input) ∷ [])
        (f.less.marks (p.places.loose g v)) (λ j. j) h.1,
  )

  pass_down : (c : Option (ℕ × ℕ)) (inputs vs : List ℕ) → AllHold k b (rule.pass_all p b g c inputs vs) → AllHold k b (rule.pass_all p a g c inputs vs)
  pass_down c [] vs h = tt
  pass_down c (input ∷ inputs) [] h = tt
  pass_down c (input ∷ inputs) (v ∷ vs) h =
      hold_both k b (rule.passed p a g (rule.caught_as c v) v input) (rule.pass_all p a g c inputs vs)
      (rule.passed p b g (rule.caught_as c v) v input) (rule.pass_all p b g c inputs vs)
      (passed_down (rule.caught_as c v) v input) (pass_down c inputs vs) h

  module _ (graph : Graph) where
    link_down : (c : Option (ℕ × ℕ)) (l : Link) → AllHold k b (rule.link_needs p b g graph c l) → AllHold k b (rule.link_needs p a g graph c l)
    link_down c l h = (h.0, pass_down c (rule.inputs_of (rule.block_at graph.blocks l.to)) l.args h.1)

    -- ---- exits

    other_down : (v : ℕ) (o : Option Link) → AllHold k b (rule.other_link p b g graph v o) → AllHold k b (rule.other_link p a g graph v o)
    other_down v None h = tt
    other_down v (Some l) h = link_down (Some (v, 0)) l h

    exceptions_down : (e : Exit) → AllHold k b (rule.exception_needs p b g graph e) → AllHold k b (rule.exception_needs p a g graph e)
    exceptions_down (exit.OnRaise v links other norm) h =
        hold_both k b (from_each (λ (l : ℕ × Link). rule.link_needs p a g graph (Some (v, l.0)) l.1) links) (rule.other_link p a g graph v other)
        (from_each (λ (l : ℕ × Link). rule.link_needs p b g graph (Some (v, l.0)) l.1) links) (rule.other_link p b g graph v other)
        (hold_each k b (λ (l : ℕ × Link). rule.link_needs p a g graph (Some (v, l.0)) l.1) (λ (l : ℕ × Link). rule.link_needs p b g graph (Some (v, l.0)) l.1)
        (λ l. link_down (Some (v, l.0)) l.1) links) (other_down v other) h
    exceptions_down e h = tt

    goes_known : (way : Bool) (c d : Option Bool) → LessKnown c d → rule.goes way (Truth c) ≡ true → rule.goes way (Truth d) ≡ true
    goes_known way (Some true) (Some true) h e = e
    goes_known way (Some false) (Some false) h e = e
    goes_known way (Some true) (Some false) h e = absurd h
    goes_known way (Some false) (Some true) h e = absurd h
    goes_known way c None h e = refl
    goes_known way None (Some d) h e = absurd h

    goes_down : (way : Bool) (x y : Shape) → Below k u x y → rule.goes way x ≡ true → rule.goes way y ≡ true
    goes_down way _ _ (least y) e = absurd (no e)
    goes_down way _ _ (truth c d h) e = goes_known way c d h e
    goes_down way _ _ h e = refl

    exit_down : (e : Exit) → AllHold k b (rule.exit_needs p b g graph e) → AllHold k b (rule.exit_needs p a g graph e)
    exit_down (exit.Goto l) h = link_down None l h
    exit_down (exit.If v one two) h =
        hold_both k b (when (rule.goes true (rule.value p a g v)) (rule.link_needs p a g graph None one)) (when (rule.goes false (rule.value p a g v)) (rule.link_needs p a g graph None two))
        (when (rule.goes true (rule.value p b g v)) (rule.link_needs p b g graph None one)) (when (rule.goes false (rule.value p b g v)) (rule.link_needs p b g graph None two))
        (hold_when k b (rule.goes true (rule.value p a g v)) (rule.goes true (rule.value p b g v)) (rule.link_needs p a g graph None one) (rule.link_needs p b g graph None one)
        (goes_down true (rule.value p a g v) (rule.value p b g v) (f.less.cells (p.places.variable g v))) (link_down None one))
        (hold_when k b (rule.goes false (rule.value p a g v)) (rule.goes false (rule.value p b g v)) (rule.link_needs p a g graph None two) (rule.link_needs p b g graph None two)
        (goes_down false (rule.value p a g v) (rule.value p b g v) (f.less.cells (p.places.variable g v))) (link_down None two)) h
    exit_down (exit.OnRaise v links other norm) h = link_down None norm h
    exit_down (exit.Return v) h = (up_down p a b f (p.places.result graph.function) (rule.value p a g v) (rule.value p b g v) (f.less.cells (p.places.variable g v)) h.0, tt)
    exit_down (exit.Raise v) h = tt

    ops_down : (os : List Op) (e : Exit) → OpsFree os → AllHold k b (rule.ops_needs p b g graph os e) → AllHold k b (rule.ops_needs p a g graph os e)
    ops_down [] e i h = exit_down e h
    ops_down (o ∷ os) e i h =
        hold_both k b (rule.op_needs p a g o) (when (rule.goes_on p a g o) (rule.ops_needs p a g graph os e))
        (rule.op_needs p b g o) (when (rule.goes_on p b g o) (rule.ops_needs p b g graph os e))
        (op_down o i.0.0 i.0.1)
        (hold_when k b (rule.goes_on p a g o) (rule.goes_on p b g o) (rule.ops_needs p a g graph os e) (rule.ops_needs p b g graph os e) (goes_on_down o) (ops_down os e i.1)) h

    block_down : (c : Block) → OpsFree c.ops → AllHold k b (rule.block_needs p b g graph c) → AllHold k b (rule.block_needs p a g graph c)
    block_down c i h =
        hold_both k b (rule.exception_needs p a g graph c.exit) (rule.ops_needs p a g graph c.ops c.exit)
        (rule.exception_needs p b g graph c.exit) (rule.ops_needs p b g graph c.ops c.exit) (exceptions_down c.exit) (ops_down c.ops c.exit i) h

    abbrev pub BlocksFree : List Block → Type 0
    BlocksFree [] = Unit {0}
    BlocksFree (c ∷ cs) = OpsFree c.ops × BlocksFree cs

    blocks_down : (n : ℕ) (cs : List Block) → BlocksFree cs → AllHold k b (rule.blocks_needs p b g graph n cs) → AllHold k b (rule.blocks_needs p a g graph n cs)
    blocks_down n [] i h = tt
    blocks_down n (c ∷ cs) i h =
        hold_both k b (when (mark a (p.places.block g n)) (rule.block_needs p a g graph c)) (rule.blocks_needs p a g graph (suc n) cs)
        (when (mark b (p.places.block g n)) (rule.block_needs p b g graph c)) (rule.blocks_needs p b g graph (suc n) cs)
        (hold_when k b (mark a (p.places.block g n)) (mark b (p.places.block g n)) (rule.block_needs p a g graph c) (rule.block_needs p b g graph c) (f.less.marks (p.places.block g n)) (block_down c i.0))
        (blocks_down (suc n) cs i.1) h

    -- ---- results of one node

    tie_with_down : (o q : Op) → AllHold k b (rule.tie_with p b g graph o q) → AllHold k b (rule.tie_with p a g graph o q)
    tie_with_down o q h =
        hold_when k b (o.value && rule.is_value_of p a g graph o.node q) (o.value && rule.is_value_of p b g graph o.node q)
        (tie p a (p.places.variable g o.result) (p.places.variable g q.result)) (tie p b (p.places.variable g o.result) (p.places.variable g q.result))
        (λ e. e) (tie_down p a b f (p.places.variable g o.result) (p.places.variable g q.result)) h

    ties_down : (os : List Op) → AllHold k b (rule.tie_ops p b g graph os) → AllHold k b (rule.tie_ops p a g graph os)
    ties_down os h =
        hold_each k b (λ o. from_each (rule.tie_with p a g graph o) os) (λ o. from_each (rule.tie_with p b g graph o) os)
        (λ o. hold_each k b (rule.tie_with p a g graph o) (rule.tie_with p b g graph o) (tie_with_down o) os) os h

    pub graph_down : BlocksFree graph.blocks → AllHold k b (rule.graph_needs p b g graph) → AllHold k b (rule.graph_needs p a g graph)
    graph_down i h =
        hold_both k b (rule.blocks_needs p a g graph zero graph.blocks) (rule.tie_ops p a g graph (rule.all_ops p a g graph graph.blocks))
        (rule.blocks_needs p b g graph zero graph.blocks) (rule.tie_ops p b g graph (rule.all_ops p b g graph graph.blocks))
        (blocks_down zero graph.blocks i) (ties_down (rule.all_ops p a g graph graph.blocks)) h
