-- What a part asks is a part of all that the graphs ask.
use Rattle.std.proofs.Common.{◌≡◌, ℕ, zero, suc, Bool, true, false, List, [], ◌∷◌, ◌++◌, map, slice_get, Option, Some, None, refl, sym, ap, subst, inl, inr}
use Rattle.std.specs.Prelude.{◌&&◌, ◌||◌, is_some, unwrap_or}
use Rattle.rpy_tree.specs.declared.program.Site.{Site}
use Rattle.flow_graph.specs.declared.graph.Link.{Link}
use Rattle.flow_graph.specs.declared.graph.Exit.{Exit}
use Rattle.flow_graph.specs.declared.graph.Exit.TheVariants as exit
use Rattle.flow_graph.specs.declared.graph.Op.{Op}
use Rattle.flow_graph.specs.declared.graph.Block.{Block}
use Rattle.flow_graph.specs.declared.graph.Graph.{Graph}
use Rattle.ann_lattice.specs.Assign.{Assignment, mark, Need}
use Rattle.ann_laws.proofs.Pairs.{no}
use Rattle.ann_rules.specs.Program as program
use Rattle.ann_rules.specs.Asks.{when, from_each}
use Rattle.ann_rules.specs.Rules as rule
use Rattle.ann_needs.specs.View.{callee_of, need_of, whole}
use Rattle.ann_needs.specs.declared.ask.Ask.{Ask}
use Rattle.ann_needs.specs.declared.plan.Callee.{Callee}
use Rattle.ann_needs.specs.declared.plan.Plan.{Plan}
use Rattle.ann_grown.specs.Partial.{IsOne, AreOf, IsAsked}
use Rattle.ann_grown.proofs.Asked.{of_none, of_self, of_on, of_left, of_right, of_when, when_of, of_item, of_entry, of_start, of_site, of_tie, of_block}
use Rattle.ann_meets.specs.Parts as parts
use Rattle.ann_meets.specs.declared.part.OpPlace.{OpPlace}
use Rattle.ann_meets.specs.declared.part.Way.{Way}
use Rattle.ann_meets.specs.declared.part.Way.TheVariants as way
use Rattle.ann_meets.specs.declared.part.Part.{Part}
use Rattle.ann_meets.specs.declared.part.Part.TheVariants as part
use Rattle.ann_meets.specs.declared.part.Piece.{Piece}
use Rattle.ann_meets.specs.Calls as calls
use Rattle.ann_meets.proofs.Pieces.{piece_in}
use Rattle.ann_meets.proofs.Raising.{callee_there}

and_left : (a b : Bool) → (a && b) ≡ true → a ≡ true
and_left true b e = refl
and_left false b e = e

and_right : (a b : Bool) → (a && b) ≡ true → b ≡ true
and_right true b e = e
and_right false b e = absurd (no e)

append_on : (ls ms ns : List Need) → AreOf ms ns → AreOf (ls ++ ms) (ls ++ ns)
append_on [] ms ns i n h = i n h
append_on (l ∷ ls) ms ns i n (inl e) = inl e
append_on (l ∷ ls) ms ns i n (inr h) = inr (append_on ls ms ns i n h)

when_on : (b : Bool) (ms ns : List Need) → AreOf ms ns → AreOf (when b ms) (when b ns)
when_on true ms ns i n h = i n h
when_on false ms ns i n h = absurd h

some_same : {A : Type 0} → (x y : A) → Some x ≡ Some y → x ≡ y
some_same x y e = ap (λ o. unwrap_or o x) e

module _ (p : program.Whole) (a : Assignment) (g : ℕ) (graph : Graph) where
  -- ---- operations and what stands behind them

  ops_of : (os : List Op) (e : Exit) → AreOf (parts.ops_needs p a g os) (rule.ops_needs p a g graph os e)
  ops_of [] e = of_none (rule.exit_needs p a g graph e)
  ops_of (o ∷ os) e =
      append_on (rule.op_needs p a g o) (when (rule.goes_on p a g o) (parts.ops_needs p a g os)) (when (rule.goes_on p a g o) (rule.ops_needs p a g graph os e))
      (when_on (rule.goes_on p a g o) (parts.ops_needs p a g os) (rule.ops_needs p a g graph os e) (ops_of os e))

  exit_of : (os : List Op) (e : Exit) → parts.all_go p a g os ≡ true → AreOf (rule.exit_needs p a g graph e) (rule.ops_needs p a g graph os e)
  exit_of [] e go = of_self (rule.exit_needs p a g graph e)
  exit_of (o ∷ os) e go =
      of_on (rule.exit_needs p a g graph e) (when (rule.goes_on p a g o) (rule.ops_needs p a g graph os e)) (rule.ops_needs p a g graph (o ∷ os) e)
      (of_on (rule.exit_needs p a g graph e) (rule.ops_needs p a g graph os e) (when (rule.goes_on p a g o) (rule.ops_needs p a g graph os e))
      (exit_of os e (and_right (rule.goes_on p a g o) (parts.all_go p a g os) go))
      (of_when (rule.goes_on p a g o) (rule.ops_needs p a g graph os e) (and_left (rule.goes_on p a g o) (parts.all_go p a g os) go)))
      (of_right (rule.op_needs p a g o) (when (rule.goes_on p a g o) (rule.ops_needs p a g graph os e)))

  -- a piece of the first
  call_of : (x : Piece) (os : List Op) (e : Exit) → AreOf (calls.first_piece p a g x os) (rule.ops_needs p a g graph os e)
  call_of x [] e = of_none (rule.exit_needs p a g graph e)
  call_of x (o ∷ os) e =
      of_on (calls.piece_needs p a g x o) (rule.op_needs p a g o) (rule.ops_needs p a g graph (o ∷ os) e)
      (piece_in p a g x o) (of_left (rule.op_needs p a g o) (when (rule.goes_on p a g o) (rule.ops_needs p a g graph os e)))

  -- ---- links

  of_pass : (caught : Option (ℕ × ℕ)) (inputs vs : List ℕ) (i input v : ℕ) → slice_get inputs i ≡ Some input → slice_get vs i ≡ Some v
      → AreOf (rule.passed p a g (rule.caught_as caught v) v input) (rule.pass_all p a g caught inputs vs)
  of_pass caught [] vs i input v e f = absurd (no (ap is_some e))
  of_pass caught (x ∷ inputs) [] i input v e f = absurd (no (ap is_some f))
  of_pass caught (x ∷ inputs) (w ∷ vs) zero input v e f =
      subst (λ y. AreOf (rule.passed p a g (rule.caught_as caught v) v y) (rule.passed p a g (rule.caught_as caught w) w x ++ rule.pass_all p a g caught inputs vs)) (some_same x input e)
      (subst (λ u. AreOf (rule.passed p a g (rule.caught_as caught u) u x) (rule.passed p a g (rule.caught_as caught w) w x ++ rule.pass_all p a g caught inputs vs)) (some_same w v f)
      (of_left (rule.passed p a g (rule.caught_as caught w) w x) (rule.pass_all p a g caught inputs vs)))
  of_pass caught (x ∷ inputs) (w ∷ vs) (suc i) input v e f =
      of_on (rule.passed p a g (rule.caught_as caught v) v input) (rule.pass_all p a g caught inputs vs) (rule.passed p a g (rule.caught_as caught w) w x ++ rule.pass_all p a g caught inputs vs)
      (of_pass caught inputs vs i input v e f) (of_right (rule.passed p a g (rule.caught_as caught w) w x) (rule.pass_all p a g caught inputs vs))

  pass_of : (caught : Option (ℕ × ℕ)) (inputs vs : List ℕ) (i : ℕ) (x y : Option ℕ) → slice_get inputs i ≡ x → slice_get vs i ≡ y
      → AreOf (parts.pass_one p a g caught x y) (rule.pass_all p a g caught inputs vs)
  pass_of caught inputs vs i None y e f = of_none (rule.pass_all p a g caught inputs vs)
  pass_of caught inputs vs i (Some input) None e f = of_none (rule.pass_all p a g caught inputs vs)
  pass_of caught inputs vs i (Some input) (Some v) e f = of_pass caught inputs vs i input v e f

  link_of : (caught : Option (ℕ × ℕ)) (l : Link) (i : Option ℕ) → AreOf (parts.link p a g graph caught l i) (rule.link_needs p a g graph caught l)
  link_of caught l None n (inl e) = inl e
  link_of caught l None n (inr h) = absurd h
  link_of caught l (Some i) n h =
      inr (pass_of caught (rule.inputs_of (rule.block_at graph.blocks l.to)) l.args i (slice_get (rule.inputs_of (rule.block_at graph.blocks l.to)) i) (slice_get l.args i) refl refl n h)

  caught_of : (v k : ℕ) (ls : List (ℕ × Link)) (x : Option (ℕ × Link)) (i : Option ℕ) → slice_get ls k ≡ x
      → AreOf (parts.caught_link p a g graph v x i) (from_each (λ (l : ℕ × Link). rule.link_needs p a g graph (Some (v, l.0)) l.1) ls)
  caught_of v k ls None i e = of_none (from_each (λ (l : ℕ × Link). rule.link_needs p a g graph (Some (v, l.0)) l.1) ls)
  caught_of v k ls (Some l) i e =
      of_on (parts.link p a g graph (Some (v, l.0)) l.1 i) (rule.link_needs p a g graph (Some (v, l.0)) l.1) (from_each (λ (l : ℕ × Link). rule.link_needs p a g graph (Some (v, l.0)) l.1) ls)
      (link_of (Some (v, l.0)) l.1 i) (of_item (λ (l : ℕ × Link). rule.link_needs p a g graph (Some (v, l.0)) l.1) ls k l e)

  other_of : (v : ℕ) (o : Option Link) (i : Option ℕ) → AreOf (parts.other_link p a g graph v o i) (rule.other_link p a g graph v o)
  other_of v None i = of_none []
  other_of v (Some l) i = link_of (Some (v, 0)) l i

  -- by an exception
  thrown_of : (e : Exit) (w : Way) (i : Option ℕ) → parts.is_thrown w ≡ true → AreOf (parts.by_way p a g graph e w i) (rule.exception_needs p a g graph e)
  thrown_of (exit.OnRaise v ls other norm) (way.Caught k) i t =
      of_on (parts.caught_link p a g graph v (slice_get ls k) i) (from_each (λ (l : ℕ × Link). rule.link_needs p a g graph (Some (v, l.0)) l.1) ls)
      (rule.exception_needs p a g graph (exit.OnRaise v ls other norm))
      (caught_of v k ls (slice_get ls k) i refl)
      (of_left (from_each (λ (l : ℕ × Link). rule.link_needs p a g graph (Some (v, l.0)) l.1) ls) (rule.other_link p a g graph v other))
  thrown_of (exit.OnRaise v ls other norm) way.Other i t =
      of_on (parts.other_link p a g graph v other i) (rule.other_link p a g graph v other) (rule.exception_needs p a g graph (exit.OnRaise v ls other norm))
      (other_of v other i)
      (of_right (from_each (λ (l : ℕ × Link). rule.link_needs p a g graph (Some (v, l.0)) l.1) ls) (rule.other_link p a g graph v other))
  thrown_of (exit.OnRaise v ls other norm) way.First i t = absurd (no t)
  thrown_of (exit.OnRaise v ls other norm) way.Second i t = absurd (no t)
  thrown_of (exit.Goto l) (way.Caught k) i t = of_none []
  thrown_of (exit.Goto l) way.Other i t = of_none []
  thrown_of (exit.Goto l) way.First i t = absurd (no t)
  thrown_of (exit.Goto l) way.Second i t = absurd (no t)
  thrown_of (exit.If v one two) (way.Caught k) i t = of_none []
  thrown_of (exit.If v one two) way.Other i t = of_none []
  thrown_of (exit.If v one two) way.First i t = absurd (no t)
  thrown_of (exit.If v one two) way.Second i t = absurd (no t)
  thrown_of (exit.Return v) (way.Caught k) i t = of_none []
  thrown_of (exit.Return v) way.Other i t = of_none []
  thrown_of (exit.Return v) way.First i t = absurd (no t)
  thrown_of (exit.Return v) way.Second i t = absurd (no t)
  thrown_of (exit.Raise v) w i t = of_none []

  branch_of : (b : Bool) (l : Link) (i : Option ℕ) → AreOf (when b (parts.link p a g graph None l i)) (when b (rule.link_needs p a g graph None l))
  branch_of true l i = link_of None l i
  branch_of false l i = of_none []

  -- without one
  onward_of : (e : Exit) (w : Way) (i : Option ℕ) → parts.is_thrown w ≡ false → AreOf (parts.by_way p a g graph e w i) (rule.exit_needs p a g graph e)
  onward_of e (way.Caught k) i t = absurd (no (sym t))
  onward_of e way.Other i t = absurd (no (sym t))
  onward_of (exit.Goto l) way.First i t = link_of None l i
  onward_of (exit.Goto l) way.Second i t = of_none (rule.exit_needs p a g graph (exit.Goto l))
  onward_of (exit.If v one two) way.First i t =
      of_on (when (rule.goes true (rule.value p a g v)) (parts.link p a g graph None one i)) (when (rule.goes true (rule.value p a g v)) (rule.link_needs p a g graph None one))
      (rule.exit_needs p a g graph (exit.If v one two)) (branch_of (rule.goes true (rule.value p a g v)) one i)
      (of_left (when (rule.goes true (rule.value p a g v)) (rule.link_needs p a g graph None one)) (when (rule.goes false (rule.value p a g v)) (rule.link_needs p a g graph None two)))
  onward_of (exit.If v one two) way.Second i t =
      of_on (when (rule.goes false (rule.value p a g v)) (parts.link p a g graph None two i)) (when (rule.goes false (rule.value p a g v)) (rule.link_needs p a g graph None two))
      (rule.exit_needs p a g graph (exit.If v one two)) (branch_of (rule.goes false (rule.value p a g v)) two i)
      (of_right (when (rule.goes true (rule.value p a g v)) (rule.link_needs p a g graph None one)) (when (rule.goes false (rule.value p a g v)) (rule.link_needs p a g graph None two)))
  onward_of (exit.OnRaise v ls other norm) way.First i t = link_of None norm i
  onward_of (exit.OnRaise v ls other norm) way.Second i t = of_none (rule.exit_needs p a g graph (exit.OnRaise v ls other norm))
  onward_of (exit.Return v) way.First i t = of_self (rule.exit_needs p a g graph (exit.Return v))
  onward_of (exit.Return v) way.Second i t = of_none (rule.exit_needs p a g graph (exit.Return v))
  onward_of (exit.Raise v) way.First i t = of_none []
  onward_of (exit.Raise v) way.Second i t = of_none []

  way_of : (b : Block) (w : Way) (i : Option ℕ) (t : Bool) → parts.is_thrown w ≡ t → (t || parts.all_go p a g b.ops) ≡ true
      → AreOf (parts.by_way p a g graph b.exit w i) (rule.block_needs p a g graph b)
  way_of b w i true t go =
      of_on (parts.by_way p a g graph b.exit w i) (rule.exception_needs p a g graph b.exit) (rule.block_needs p a g graph b)
      (thrown_of b.exit w i t) (of_left (rule.exception_needs p a g graph b.exit) (rule.ops_needs p a g graph b.ops b.exit))
  way_of b w i false t go =
      of_on (parts.by_way p a g graph b.exit w i) (rule.exit_needs p a g graph b.exit) (rule.block_needs p a g graph b)
      (onward_of b.exit w i t)
      (of_on (rule.exit_needs p a g graph b.exit) (rule.ops_needs p a g graph b.ops b.exit) (rule.block_needs p a g graph b)
      (exit_of b.ops b.exit go) (of_right (rule.exception_needs p a g graph b.exit) (rule.ops_needs p a g graph b.ops b.exit)))

  -- ---- blocks of a graph of the program

  module _ (e : slice_get p.graphs g ≡ Some graph) where
    ops_asked : (n : ℕ) (x : Option Block) → slice_get graph.blocks n ≡ x → AreOf (parts.ops_of p a g n x) (rule.needs p a)
    ops_asked n None f = of_none (rule.needs p a)
    ops_asked n (Some b) f =
        when_of (mark a (p.places.block g n)) (parts.ops_needs p a g b.ops) (rule.needs p a)
        (λ m. of_on (parts.ops_needs p a g b.ops) (rule.block_needs p a g graph b) (rule.needs p a)
        (of_on (parts.ops_needs p a g b.ops) (rule.ops_needs p a g graph b.ops b.exit) (rule.block_needs p a g graph b)
        (ops_of b.ops b.exit) (of_right (rule.exception_needs p a g graph b.exit) (rule.ops_needs p a g graph b.ops b.exit)))
        (of_block p a g graph e n b f m))

    call_asked : (n : ℕ) (x : Piece) (y : Option Block) → slice_get graph.blocks n ≡ y → AreOf (parts.call_of p a g n x y) (rule.needs p a)
    call_asked n x None f = of_none (rule.needs p a)
    call_asked n x (Some b) f =
        when_of (mark a (p.places.block g n)) (calls.first_piece p a g x b.ops) (rule.needs p a)
        (λ m. of_on (calls.first_piece p a g x b.ops) (rule.block_needs p a g graph b) (rule.needs p a)
        (of_on (calls.first_piece p a g x b.ops) (rule.ops_needs p a g graph b.ops b.exit) (rule.block_needs p a g graph b)
        (call_of x b.ops b.exit) (of_right (rule.exception_needs p a g graph b.exit) (rule.ops_needs p a g graph b.ops b.exit)))
        (of_block p a g graph e n b f m))

    exit_asked : (n : ℕ) (w : Way) (i : Option ℕ) (x : Option Block) → slice_get graph.blocks n ≡ x → AreOf (parts.exit_of p a g graph n w i x) (rule.needs p a)
    exit_asked n w i None f = of_none (rule.needs p a)
    exit_asked n w i (Some b) f =
        when_of (parts.is_open p a g n b w) (parts.by_way p a g graph b.exit w i) (rule.needs p a)
        (λ opened. of_on (parts.by_way p a g graph b.exit w i) (rule.block_needs p a g graph b) (rule.needs p a)
        (way_of b w i (parts.is_thrown w) refl (and_right (mark a (p.places.block g n)) (parts.is_thrown w || parts.all_go p a g b.ops) opened))
        (of_block p a g graph e n b f (and_left (mark a (p.places.block g n)) (parts.is_thrown w || parts.all_go p a g b.ops) opened)))

    -- ---- ties

    record Placed (o : Op) : Type 0 where
      number : ℕ
      block : Block
      block_is : slice_get graph.blocks number ≡ Some block
      index : ℕ
      op_is : slice_get block.ops index ≡ Some o

    placed : (x : OpPlace) (y : Option Block) → slice_get graph.blocks x.block ≡ y → (o : Op) → parts.op_in y x.index ≡ Some o → Placed o
    placed x None f o h = absurd (no (ap is_some h))
    placed x (Some b) f o h = record { number = x.block; block = b; block_is = f; index = x.index; op_is = h }

    tie_asked : (x y : OpPlace) (o q : Option Op) → parts.op_at graph.blocks x ≡ o → parts.op_at graph.blocks y ≡ q
        → AreOf (parts.tie_one p a g graph o q) (rule.needs p a)
    tie_asked x y None q f h = of_none (rule.needs p a)
    tie_asked x y (Some o) None f h = of_none (rule.needs p a)
    tie_asked x y (Some o) (Some q) f h =
        let one = placed x (slice_get graph.blocks x.block) refl o f in
        let two = placed y (slice_get graph.blocks y.block) refl q h in
        of_tie p a g graph e one.number one.block one.block_is one.index o one.op_is two.number two.block two.block_is two.index q two.op_is

module _ (p : program.Whole) (a : Assignment) where
  ops_in : (g n : ℕ) (x : Option Graph) → slice_get p.graphs g ≡ x → AreOf (parts.ops_in p a g n x) (rule.needs p a)
  ops_in g n None e = of_none (rule.needs p a)
  ops_in g n (Some graph) e = ops_asked p a g graph e n (slice_get graph.blocks n) refl

  call_in : (g n : ℕ) (y : Piece) (x : Option Graph) → slice_get p.graphs g ≡ x → AreOf (parts.call_in p a g n y x) (rule.needs p a)
  call_in g n y None e = of_none (rule.needs p a)
  call_in g n y (Some graph) e = call_asked p a g graph e n y (slice_get graph.blocks n) refl

  exit_in : (g n : ℕ) (w : Way) (i : Option ℕ) (x : Option Graph) → slice_get p.graphs g ≡ x → AreOf (parts.exit_in p a g n w i x) (rule.needs p a)
  exit_in g n w i None e = of_none (rule.needs p a)
  exit_in g n w i (Some graph) e = exit_asked p a g graph e n w i (slice_get graph.blocks n) refl

  tie_in : (g : ℕ) (x y : OpPlace) (z : Option Graph) → slice_get p.graphs g ≡ z → AreOf (parts.tie_in p a g x y z) (rule.needs p a)
  tie_in g x y None e = of_none (rule.needs p a)
  tie_in g x y (Some graph) e = tie_asked p a g graph e x y (parts.op_at graph.blocks x) (parts.op_at graph.blocks y) refl refl

  site_in : (s : ℕ) (x : Option Site) → slice_get p.sites s ≡ x → AreOf (parts.site_of p a s x) (rule.needs p a)
  site_in s None e = of_none (rule.needs p a)
  site_in s (Some site) e = of_site p a s site e

start_in : (q : Plan) (a : Assignment) (f : ℕ) (x : Option Callee) → slice_get q.callees f ≡ x → AreOf (parts.start_of (whole q) a f x) (rule.needs (whole q) a)
start_in q a f None e = of_none (rule.needs (whole q) a)
start_in q a f (Some c) e = of_start (whole q) a f (callee_of c) (callee_there q.callees f c e)

pub part_asked : (q : Plan) (a : Assignment) (x : Part) → AreOf (parts.part_needs q a x) (rule.needs (whole q) a)
part_asked q a part.Entry = of_entry (whole q) a
part_asked q a (part.Start f) = start_in q a f (slice_get q.callees f) refl
part_asked q a (part.Site s) = site_in (whole q) a s (slice_get q.sites s) refl
part_asked q a (part.Tie g x y) = tie_in (whole q) a g x y (slice_get q.graphs.graphs g) refl
part_asked q a (part.Ops g n) = ops_in (whole q) a g n (slice_get q.graphs.graphs g) refl
part_asked q a (part.Call g n x) = call_in (whole q) a g n x (slice_get q.graphs.graphs g) refl
part_asked q a (part.Link g n w i) = exit_in (whole q) a g n w i (slice_get q.graphs.graphs g) refl

-- what stands at a place of a list
one_of : (asks : List Ask) (i : ℕ) (ask : Ask) → Some ask ≡ slice_get asks i → IsOne (need_of ask) (map need_of asks)
one_of [] i ask e = absurd (no (sym (ap is_some e)))
one_of (x ∷ asks) zero ask e = inl (ap need_of (ap (λ o. unwrap_or o x) (sym e)))
one_of (x ∷ asks) (suc i) ask e = inr (one_of asks i ask e)

pub asked_part : (q : Plan) (a : Assignment) (x : Part) (asks : List Ask) → map need_of asks ≡ parts.part_needs q a x → (i : ℕ) (ask : Ask) → Some ask ≡ slice_get asks i
    → IsAsked (whole q) a (need_of ask)
asked_part q a x asks e i ask f = part_asked q a x (need_of ask) (subst (IsOne (need_of ask)) e (one_of asks i ask f))
