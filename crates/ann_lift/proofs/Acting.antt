-- Blocks that are reached, and what stands there.
use Rattle.std.proofs.Common.{◌≡◌, ℕ, ◌+◌, ◌<◌, ◌≤◌, Bool, true, false, List, [], ◌∷◌, ◌++◌, length, map, Option, refl, sym, ap, ◌∙◌, subst, arith, append-nil}
use Rattle.std.specs.Prelude.{◌&&◌, not, if◌then◌else◌}
use Rattle.std.proofs.lemmas.Bool.{false≢true}
use Rattle.rpy_tree.specs.Value.{Object}
use Rattle.rpy_meaning.specs.declared.row.RowOp.{RowOp}
use Rattle.rpy_meaning.specs.declared.row.RowOp.TheVariants as row
use Rattle.rpy_meaning.specs.Tree as tree
use Rattle.flow_graph.specs.declared.graph.Graphs.{Graphs}
use Rattle.flow_stands.specs.Places.{Scope, Jump, first_and, hand_jumps, Shape as Form, Go, Fork, Does, Plain, GiveBack, GiveUp}
use Rattle.flow_trees.specs.Marks as marks
use Rattle.ann_lattice.specs.Shape.{Shape, Nothing, NoneOnly, Truth, Num, Str, Tup, Lst, Dct, Inst, Fun, Clash}
use Rattle.ann_lattice.specs.Join.{is_clash}
use Rattle.ann_lattice.specs.Kind.{some_nothing}
use Rattle.ann_lattice.specs.Laws.{IsTree, IsFormed}
use Rattle.ann_lattice.specs.Assign.{Set, Under, Holds}
use Rattle.ann_rules.specs.Program.{Whole}
use Rattle.ann_rules.specs.Asks.{asks}
use Rattle.ann_rules.specs.Rules.{asked, is_copy, is_narrowing, goes}
use Rattle.ann_rules.specs.Hold.{AllHold}
use Rattle.ann_tree.specs.Faults.{OfConstant, OfFamily, fit, some_first, modifies, may_be_constant, called, given}
use Rattle.ann_tree.specs.Annotation.{Annotation, Environment, Point, Never, With, Handler, Seen, At}
use Rattle.ann_tree.specs.Gives as part
use Rattle.ann_tree.specs.Gives.{AreFormed}
use Rattle.ann_lift.specs.Spots.{Spot, Spots, calm, first_unbound, goes_on, Goes, Results, IsValue}
use Rattle.ann_lift.proofs.Lifted.{Lifted, under, so, seq, straight, one}
use Rattle.ann_lift.proofs.States.{held_at, bound, spot, at_in, loose_held, Enters, Leads, stands}
use Rattle.ann_lift.proofs.Watched.{Watched, caught_all}

calm_is : (x : Shape) → is_clash x ≡ false → calm x ≡ x
calm_is Nothing h = refl
calm_is NoneOnly h = refl
calm_is (Truth b) h = refl
calm_is (Num b) h = refl
calm_is (Str w) h = refl
calm_is (Tup xs) h = refl
calm_is (Lst s b) h = refl
calm_is (Dct s b) h = refl
calm_is (Inst c b) h = refl
calm_is (Fun fs b) h = refl
calm_is (Clash o q) h = absurd (false≢true (sym h))

calm_free : (x : Shape) → is_clash (calm x) ≡ false
calm_free Nothing = refl
calm_free NoneOnly = refl
calm_free (Truth b) = refl
calm_free (Num b) = refl
calm_free (Str w) = refl
calm_free (Tup xs) = refl
calm_free (Lst s b) = refl
calm_free (Dct s b) = refl
calm_free (Inst c b) = refl
calm_free (Fun fs b) = refl
calm_free (Clash o q) = refl

nothing_from : {A : Type 0} (b : Bool) → (b && false) ≡ true → A
nothing_from true h = absurd (false≢true h)
nothing_from false h = absurd (false≢true h)

module _ (p : Whole) (sites : List (Option Object)) (a : Annotation) (f n : ℕ) (gs : Graphs) (classes : IsTree p.tables.classes) (meant : tree.Program) where
  abbrev pub Lift : ℕ → ℕ → (Spots → Type 0) → (Spots → Type 0) → Type 0
  Lift lo hi C E = Lifted p a f gs lo hi C E

  -- ---- blocks that nothing reaches

  abbrev pub Nowhere : Spots → Type 0
  Nowhere at = Unit {0}

  abbrev idle : Bool → ℕ → Spot
  idle value node = record { reached = false; element = λ j. if value then calm (a.element node) else Nothing; unbound = λ j. false }

  idle_results : (m node : ℕ) (value : Bool) (form : Form) → Results p a f (idle value node) m node value form
  idle_results m node value (Go jump) = tt
  idle_results m node value (Fork test so_way other) = tt
  idle_results m node true (Does o args covers hands default norm) = (calm_free (a.element node), refl)
  idle_results m node false (Does o args covers hands default norm) = (refl, tt)
  idle_results m node true (Plain o jump) = (calm_free (a.element node), refl)
  idle_results m node false (Plain o jump) = (refl, tt)
  idle_results m node value GiveBack = tt
  idle_results m node value GiveUp = tt

  pub idle_marked : {lo hi : ℕ} (b m node : ℕ) (value : Bool) (form : Form) → marks.Marked meant gs f n b m node value form lo hi → Lift lo hi Nowhere Nowhere
  idle_marked b m node value form h = so p a f gs (λ at c e. tt) (one p a f gs b h.0.0 m node value form h.1 h.0.1 (idle value node) (idle_results m node value form) (λ at c r. absurd (false≢true r)))

  pub idle_is : {lo hi : ℕ} (b m : ℕ) (form : Form) → marks.Is meant gs f n b m form lo hi → Lift lo hi Nowhere Nowhere
  idle_is b m form h = so p a f gs (λ at c e. tt) (one p a f gs b h.0.0 m h.0.1 h.0.2 form h.1 h.0.3 (idle h.0.2 h.0.1) (idle_results m h.0.1 h.0.2 form) (λ at c r. absurd (false≢true r)))

  pub both : {lo mid hi : ℕ} → Lift lo mid Nowhere Nowhere → Lift mid hi Nowhere Nowhere → Lift lo hi Nowhere Nowhere
  both x y = so p a f gs (λ at c e. tt) (seq p a f gs x (under p a f gs (λ at c. tt) y))

  pub none_put : {lo hi : ℕ} → lo ≡ hi → Lift lo hi Nowhere Nowhere
  none_put e = straight p a f gs e (λ at c. tt)

  -- ---- a block that is reached

  value_is : (value : Bool) (node : ℕ) (z : Shape) → is_clash z ≡ false → part.IsOf p sites a n value node z → IsValue p a f value node z
  value_is true node z free is = is ∙ sym (calm_is (a.element node) (ap is_clash (sym is) ∙ free))
  value_is false node z free is = tt

  -- what modifies nothing and calls nothing shows no flaw
  pub unmarked : (node : ℕ) (value : Bool) (o : RowOp) (xs : List Shape) → modifies value o xs ≡ false → called p a.parts o xs ≡ [] → part.MarksFaults p sites a n node value o xs
  unmarked node value o xs still none OfConstant some shown = absurd (false≢true (sym (ap (λ b. b && some_first (may_be_constant p a.parts) xs) still) ∙ shown))
  unmarked node value o xs still none OfFamily some shown = absurd (false≢true (sym (ap (λ fs. not (fit p.callees fs (given o xs))) none) ∙ shown))

  pub unmarked_telling : (node : ℕ) (o : RowOp) (xs : List Shape) → is_narrowing o ≡ true → part.MarksFaults p sites a n node false o xs
  unmarked_telling node row.DropNone xs h = unmarked node false row.DropNone xs refl refl
  unmarked_telling node row.OnlyNone xs h = unmarked node false row.OnlyNone xs refl refl
  unmarked_telling node row.FalseNone xs h = unmarked node false row.FalseNone xs refl refl
  unmarked_telling node (row.Lower c) xs h = unmarked node false (row.Lower c) xs refl refl
  unmarked_telling node row.NonNegative xs h = unmarked node false row.NonNegative xs refl refl
  unmarked_telling node _ xs h = absurd (false≢true h)

  -- with an operation: what its operands are, what it gives, and the flaws that it shows
  pub act_with : {lo hi : ℕ} {C : Spots → Type 0} (sc : Scope) (b node : ℕ) (value : Bool) (o : RowOp) (args : List ℕ) (m : ℕ) (norm : Jump) → marks.Acts meant gs f n sc b node value o args m norm lo hi
      → (e : Environment) (held : List Shape) (u : ℕ → Bool) (hs : List Handler) (xs : List Shape) (z : Shape) → m ≡ n + length held → ((j : ℕ) → j < m → n ≤ j → u j ≡ false)
      → Seen p.tables.classes a.parts.same n hs e → map (held_at n e (held ++ z ∷ [])) args ≡ xs → part.Operates p sites a n o node xs z → part.IsOf p sites a n value node z → part.MarksFaults p sites a n node value o xs
      → ((is_copy o && first_unbound (spot n e (held ++ z ∷ []) u) args) ≡ true → Holds p.tables.classes a.parts (Set (p.places.unbound node)))
      → ((is_narrowing o && first_unbound (spot n e (held ++ z ∷ []) u) args) ≡ true → u m ≡ true)
      → ((at : Spots) → C at → Watched p a f n classes at held hs sc.hands sc.default)
      → (goes_on o z ≡ true → (at : Spots) → C at → Goes p a f at (spot n e (held ++ z ∷ []) u) norm)
      → Lift lo hi C (λ at. Enters p a f n classes at b e held)
  act_with {lo} {hi} {C} sc b node value o args m norm h e held u hs xs z count quiet seen operands does is_of marked reads keeps watched goes_to =
      let s = spot n e (held ++ z ∷ []) u in
      let result : s.element m ≡ z = at_in n e held z [] (held ++ z ∷ []) m refl count in
      let is_value = value_is value node z does.0 is_of in
      so p a f gs (λ at c i. stands p a f n classes at b e held (z ∷ []) u i)
      (one p a f gs b h.0.0 m node value (Does o args sc.covers (hand_jumps m sc.hands) (first_and sc.default.to sc.default.keep m) norm) h.1 h.0.1 s
      (ap is_clash result ∙ does.0, subst (λ x. IsValue p a f value node x) (sym result) is_value)
      (λ at c r.
      let raised = caught_all p a f n classes at e u m held (z ∷ []) (omega (arith, count)) quiet hs sc.hands sc.default (watched at c) seen in (
        raised.0,
        raised.1,
        record {
          reads = reads;
          keeps = λ k. loose_held n e u m (omega (arith, count)) ∙ keeps k;
          gives = λ some.
              let d = does.1 (ap some_nothing (sym operands) ∙ some) in
              subst (λ ys. Under p.tables.classes a.parts.same (asked p a.parts f o ys node) (s.element m) × AllHold p.tables.classes a.parts (asks p a.parts o ys)) (sym operands)
              (subst (λ x. Under p.tables.classes a.parts.same (asked p a.parts f o xs node) x) (sym result) d.0, d.1);
          formed = λ formed. subst (λ x. IsFormed x) (sym result) (does.2 (subst (λ ys. AreFormed ys) operands formed));
          marked = subst (λ ys. part.MarksFaults p sites a n node value o ys) (sym operands) marked;
        },
        λ g. goes_to (ap (λ x. goes_on o x) (sym result) ∙ g) at c,
      )))

  -- its operands are held
  pub act : {lo hi : ℕ} {C : Spots → Type 0} (sc : Scope) (b node : ℕ) (value : Bool) (o : RowOp) (args : List ℕ) (m : ℕ) (norm : Jump) → marks.Acts meant gs f n sc b node value o args m norm lo hi
      → (e : Environment) (held : List Shape) (hs : List Handler) (xs : List Shape) (z : Shape) → m ≡ n + length held
      → Seen p.tables.classes a.parts.same n hs e → map (held_at n e (held ++ z ∷ [])) args ≡ xs → first_unbound (spot n e (held ++ z ∷ []) bound) args ≡ false → part.Operates p sites a n o node xs z → part.IsOf p sites a n value node z → part.MarksFaults p sites a n node value o xs
      → ((at : Spots) → C at → Watched p a f n classes at held hs sc.hands sc.default)
      → (goes_on o z ≡ true → (at : Spots) → C at → Goes p a f at (spot n e (held ++ z ∷ []) bound) norm)
      → Lift lo hi C (λ at. Enters p a f n classes at b e held)
  act sc b node value o args m norm h e held hs xs z count seen operands clear does is_of marked watched goes_to =
      act_with sc b node value o args m norm h e held bound hs xs z count (λ j l r. refl) seen operands does is_of marked
      (λ k. nothing_from (is_copy o) (ap (λ t. is_copy o && t) (sym clear) ∙ k)) (λ k. nothing_from (is_narrowing o) (ap (λ t. is_narrowing o && t) (sym clear) ∙ k)) watched goes_to

  -- a block without an operation, which goes on at once
  pub go : {lo hi : ℕ} {C : Spots → Type 0} (b m : ℕ) (jump : Jump) → marks.Is meant gs f n b m (Go jump) lo hi → (e : Environment) (held : List Shape) → ((at : Spots) → C at → Goes p a f at (spot n e held bound) jump) → Lift lo hi C (λ at. Enters p a f n classes at b e held)
  go b m jump h e held goes_to =
      so p a f gs (λ at c i. stands p a f n classes at b e held [] bound (i ∙ ap (λ (l : List Shape). spot n e l bound) (sym (append-nil held))))
      (one p a f gs b h.0.0 m h.0.1 h.0.2 (Go jump) h.1 h.0.3 (spot n e held bound) tt (λ at c r. goes_to at c))

  -- one that goes on by the truth of a variable
  pub fork : {lo hi : ℕ} {C : Spots → Type 0} (b m test : ℕ) (yes no : Jump) → marks.Is meant gs f n b m (Fork test yes no) lo hi → (e : Environment) (held : List Shape) (t : Shape) → held_at n e held test ≡ t
      → ((at : Spots) → C at → goes true t ≡ true → Goes p a f at (spot n e held bound) yes)
      → ((at : Spots) → C at → goes false t ≡ true → Goes p a f at (spot n e held bound) no)
      → Lift lo hi C (λ at. Enters p a f n classes at b e held)
  fork b m test so_way other h e held t is one_way other_way =
      so p a f gs (λ at c i. stands p a f n classes at b e held [] bound (i ∙ ap (λ (l : List Shape). spot n e l bound) (sym (append-nil held))))
      (one p a f gs b h.0.0 m h.0.1 h.0.2 (Fork test so_way other) h.1 h.0.3 (spot n e held bound) tt (λ at c r. ((λ g. one_way at c (ap (goes true) (sym is) ∙ g)), (λ g. other_way at c (ap (goes false) (sym is) ∙ g)))))

  -- ---- what stands behind a point

  pub from_point : {lo hi : ℕ} {C : Spots → Type 0} (k : ℕ) (held : List Shape) (J : Environment → Type 0) (q : Point) → At q J → Lift lo hi Nowhere Nowhere → ((g : Environment) → J g → Lift lo hi C (λ at. Enters p a f n classes at k g held)) → Lift lo hi C (λ at. Leads p a f n classes at k q held)
  from_point k held J Never j nowhere lift = so p a f gs (λ at c e. tt) (under p a f gs (λ at c. tt) nowhere)
  from_point k held J (With g) j nowhere lift = lift g j
