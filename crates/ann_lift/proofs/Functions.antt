-- What stands at the blocks of a function's graph.
use Rattle.std.proofs.Common.{◌≡◌, ℕ, ◌+◌, ◌<◌, inl, Bool, true, false, List, [], ◌∷◌, length, Option, Some, refl, sym, ap, ◌∙◌, subst, arith}
use Rattle.std.specs.Prelude.{slice_get}
use Rattle.std.proofs.lemmas.Bool.{false≢true}
use Rattle.rpy_tree.specs.Value.{Object}
use Rattle.rpy_meaning.specs.declared.row.RowOp.TheVariants as row
use Rattle.rpy_meaning.specs.Tree as meaning
use Rattle.flow_graph.specs.declared.graph.Graphs.{Graphs}
use Rattle.flow_stands.specs.Places.{Shape as Form, Go, Plain, GiveBack, GiveUp, first, first_and}
use Rattle.flow_stands.specs.Stands.{return_block, never_block, no_try, outside}
use Rattle.flow_stands.specs.Stands as stands_of
use Rattle.flow_trees.specs.Tree.{Function}
use Rattle.flow_trees.specs.Marks as marks
use Rattle.flow_trees.specs.Marks.{blocks_of, Alone}
use Rattle.ann_lattice.specs.Shape.{Shape, Nothing, NoneOnly, Inst}
use Rattle.ann_lattice.specs.Join.{is_clash}
use Rattle.ann_lattice.specs.Laws.{IsTree, IsFormed}
use Rattle.ann_lattice.specs.Assign.{at, mark}
use Rattle.ann_rules.specs.Program.{Whole}
use Rattle.ann_tree.specs.Annotation.{Annotation, Environment, Point, Never, With, Away, Towards, Exits, At}
use Rattle.ann_tree.specs.Closed.{before, IsClosedIn, IsPlacedIn, IfFunction, IsClosed}
use Rattle.ann_tree.specs.Leaves as leave
use Rattle.ann_lift.specs.Spots.{Spot, Spots, Starts, Shown}
use Rattle.ann_lift.proofs.Lifted.{under, so, seq, straight, one, head}
use Rattle.ann_lift.proofs.States.{held_at, bound, spot, at_in, at_local, loose_local, loose_held, Lower, self, stands}
use Rattle.ann_lift.proofs.Ways.{goes_keeping}
use Rattle.ann_lift.proofs.Acting.{idle_marked, unmarked}
use Rattle.ann_lift.proofs.Forms.{Lf, T}
use Rattle.ann_lift.proofs.Leaving.{result}
use Rattle.ann_lift.proofs.Stmts.{lines}
use Rattle.ann_lift.proofs.Idle as idle

module _ (p : Whole) (sites : List (Option Object)) (a : Annotation) (f : ℕ) (gs : Graphs) (classes : IsTree p.tables.classes) (meant : meaning.Program) (function : Function) where
  abbrev n : ℕ
  n = function.locals

  abbrev S : ℕ → ℕ → (Spots → Type 0) → (Spots → Type 0) → Type 0
  S lo hi C E = Lf p sites a f n gs classes meant lo hi C E

  abbrev Q : Spots → ℕ → Point → List Shape → Type 0
  Q k b r held = T p sites a f n gs classes meant k b r held

  abbrev Res : Shape
  Res = result p sites a f n gs classes meant

  abbrev pub size : ℕ
  size = length (blocks_of (slice_get gs.graphs f))

  -- the same element at each place, which is bound
  abbrev plain_spot : Shape → Spot
  plain_spot x = record { reached = true; element = λ j. x; unbound = λ j. false }

  alone : (b : ℕ) → Alone b b (b + 1)
  alone b = (refl, refl)

  -- nothing reaches the function
  idle_is_at : (b m : ℕ) (form : Form) → stands_of.Is meant gs f n b m form → idle.Idle p sites a f n gs classes meant b (b + 1)
  idle_is_at b m form h = idle.block p sites a f n gs classes meant b m form (h, alone b)

  nowhere : marks.HasFunction meant gs f function → S 0 size (λ k. Unit {0}) (λ k. Unit {0})
  nowhere h =
      idle.both_of p sites a f n gs classes meant (idle_is_at 0 n (Go (first h.0 n)) h.2)
      (idle.both_of p sites a f n gs classes meant (idle_is_at 1 1 GiveBack h.3)
      (idle.both_of p sites a f n gs classes meant (idle_is_at 2 1 GiveUp h.4)
      (idle.both_of p sites a f n gs classes meant (idle_is_at 3 0 (Go (first never_block 0)) h.5)
      (idle.both_of p sites a f n gs classes meant (idle_marked p sites a f n gs classes meant 4 n function.node false (Plain row.None (first_and return_block 0 n)) h.6)
      (idle.lines p sites a f n gs classes meant no_try function.body h.0 n (outside n) 5 size h.7)))))

  module _ (free : is_clash Res ≡ false) (formed : IsFormed Res) (placed : p.places.result f < length a.parts.cells) (h : marks.HasFunction meant gs f function) where
    abbrev First : Spots → Type 0
    First k = (k 1 ≡ plain_spot Res) × (k 2 ≡ plain_spot (Inst 0 false)) × (k 3 ≡ plain_spot Nothing)

    -- the end of the body returns `None`
    end_at : (r : Point) → At r (λ g. leave.Returns p sites a f n NoneOnly) → S 4 5 First (λ k. Q k 4 r [])
    end_at Never j = so p a f gs (λ k c i. tt) (under p a f gs (λ k c. tt) (idle_marked p sites a f n gs classes meant 4 n function.node false (Plain row.None (first_and return_block 0 n)) h.6))
    end_at (With g) j =
        let s = spot n g (NoneOnly ∷ []) bound in
        let there : held_at n g (NoneOnly ∷ []) n ≡ NoneOnly = at_in n g [] NoneOnly [] (NoneOnly ∷ []) n refl (omega arith) in
        so p a f gs (λ k c i. stands p a f n classes k 4 g [] (NoneOnly ∷ []) bound i)
        (one p a f gs 4 h.6.0.0 n function.node false (Plain row.None (first_and return_block 0 n)) h.6.1 h.6.0.1 s (ap is_clash there, tt)
        (λ k c reached. (
          record {
            reads = λ i. absurd (false≢true i);
            keeps = λ i. absurd (false≢true i);
            marked = unmarked p sites a f n gs classes meant function.node false row.None [] refl refl;
            gives = λ some. (((subst (λ x. Lower p a f n classes NoneOnly x) (sym there) (self p a f n classes NoneOnly)).0, tt), tt);
            formed = λ h. subst (λ x. IsFormed x) (sym there) (record { sound = refl; shallow = omega arith });
          },
          λ i. (
            ap (λ (u : Spot). u.reached) c.0,
            ((subst (λ x. Lower p a f n classes x ((k 1).element 0)) (sym there) (subst (λ (u : Spot). Lower p a f n classes NoneOnly (u.element 0)) (sym c.0) ((j placed).0, λ h. formed)), λ w. absurd (false≢true (sym (loose_held n g bound n (omega arith)) ∙ w))), tt),
          ),
        )))

    -- the function is reached
    reached_at : IsClosedIn p sites a f function → mark a.parts (p.places.reached f) ≡ true → S 0 size (λ k. Unit {0}) (λ k. k 0 ≡ spot n (before p sites a f function) [] bound)
    reached_at closed reached =
        let j = closed reached in
        let e : Environment = before p sites a f function in
        let here : Spot = spot n e [] bound in
        let count : n ≡ n + 0 = omega arith in
        let exits : Exits = record { next = j.0; broken = Towards j.0; continued = Towards j.0; returned = Away } in
        so p a f gs (λ k c i. i.0)
        (head p a f gs 0 h.2.0 n h.2.1 h.2.2 (Go (first h.0 n)) (alone 0) h.2.3 here tt
        (seq p a f gs (one p a f gs 1 h.3.0 1 h.3.1 h.3.2 GiveBack (alone 1) h.3.3 (plain_spot Res) tt (λ k c r lt. ((self p a f n classes Res).0, tt)))
        (seq p a f gs (one p a f gs 2 h.4.0 1 h.4.1 h.4.2 GiveUp (alone 2) h.4.3 (plain_spot (Inst 0 false)) tt (λ k c r. tt))
        (seq p a f gs (so p a f gs (λ k c i. i.0) (head p a f gs 3 h.5.0 0 h.5.1 h.5.2 (Go (first never_block 0)) (alone 3) h.5.3 (plain_spot Nothing) tt (straight p a f gs refl (λ k c. c.1)) (λ k c i r. (ap (λ (u : Spot). u.reached) i, tt))))
        (seq p a f gs (under p a f gs (λ k c. (c.0.0.1, c.0.1, c.1)) (end_at j.0 j.2))
        (under p a f gs (λ k c.
        let back = c.0.0.0.1 in
        let up = c.0.0.1 in (
          (inl (refl, refl, ap (λ (u : Spot). u.reached) up, subst (λ (u : Spot). Lower p a f n classes (Inst 0 false) (u.element 0)) (sym up) (self p a f n classes (Inst 0 false))), ap (λ (u : Spot). u.reached) c.0.1),
          record {
            next = c.1;
            broken = ([], [], refl, count, c.1);
            continued = ([], [], refl, count, c.1);
            returned = (refl, refl);
            reached = ap (λ (u : Spot). u.reached) back;
            gives = ap (λ (u : Spot). u.element 0) back;
          },
        ))
        (lines p sites a f n gs classes meant free formed placed no_try [] function.body h.0 n (outside n) 5 size h.7 [] count e exits j.1))))))
        (λ k c i r. goes_keeping p a f n classes k h.0 n e [] [] [] refl count i.1.1.1.1))

    at_entry : (k : Spots) → k 0 ≡ spot n (before p sites a f function) [] bound → Starts p a f (k 0) n (before p sites a f function)
    at_entry k c = (
      ap (λ (u : Spot). u.reached) c,
      λ j lt. (ap (λ (u : Spot). u.element j) c ∙ at_local n (before p sites a f function) [] j lt, ap (λ (u : Spot). u.unbound j) c ∙ loose_local n (before p sites a f function) bound j lt),
    )

    pub shown : IsClosedIn p sites a f function → Shown p a f sites gs function
    shown closed = by (mark a.parts (p.places.reached f)) refl
      where
        by : (b : Bool) → mark a.parts (p.places.reached f) ≡ b → Shown p a f sites gs function
        by true is =
            let x = reached_at closed is in
            record {
              spots = x.found;
              good = λ b lt. x.good x.found (λ i l r. refl) tt b (omega arith) lt;
              starts = λ r. at_entry x.found (x.known x.found (λ i l r. refl) tt);
            }
        by false is =
            let x = nowhere h in
            record {
              spots = x.found;
              good = λ b lt. x.good x.found (λ i l r. refl) tt b (omega arith) lt;
              starts = λ r. absurd (false≢true (sym is ∙ r));
            }

-- ---- of all functions

module _ (p : Whole) (sites : List (Option Object)) (a : Annotation) (gs : Graphs) (meant : meaning.Program) (functions : List Function) (classes : IsTree p.tables.classes) (stand : marks.Stand meant gs functions) (closed : IsClosed p sites a functions) (formed : (c : ℕ) → IsFormed (at a.parts c)) where
  pub shown_in : (f : ℕ) (function : Function) → slice_get functions f ≡ Some function → Shown p a f sites gs function
  shown_in f function found =
      shown p sites a f gs classes meant function (closed.free.results f) (formed (p.places.result f))
      (subst (λ (o : Option Function). IsPlacedIn p sites a f o) found (closed.placed.of_functions f)).1
      (subst (λ (o : Option Function). marks.IfFunction meant gs f o) found (stand f))
      (subst (λ (o : Option Function). IfFunction p sites a f o) found (closed.functions_are f))
