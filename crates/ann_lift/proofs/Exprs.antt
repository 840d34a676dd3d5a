-- What stands at the blocks of expressions and targets that are reached.
use Rattle.std.proofs.Common.{◌≡◌, ℕ, ◌+◌, ◌<◌, ◌≤◌, Bool, true, false, List, [], ◌∷◌, ◌++◌, length, map, Option, Some, None, refl, sym, ap, ◌∙◌, subst, arith, append_assoc, length-append}
use Rattle.std.specs.Prelude.{◌==◌, ◌&&◌, ◌||◌, not, is_some, if◌then◌else◌}
use Rattle.std.proofs.lemmas.Bool.{eq-eqb, ne_eqb, false≢true}
use Rattle.rpy_tree.specs.Value.{Object}
use Rattle.rpy_meaning.specs.declared.row.RowOp.{RowOp}
use Rattle.rpy_meaning.specs.declared.row.RowOp.TheVariants as row
use Rattle.rpy_meaning.specs.Tree as meaning
use Rattle.flow_graph.specs.declared.graph.Graphs.{Graphs}
use Rattle.flow_stands.specs.Places.{stored, Scope, Jump, first, first_and}
use Rattle.flow_stands.specs.Stands.{onward, never_block}
use Rattle.flow_trees.specs.Tree.{Expr}
use Rattle.flow_trees.specs.Tells.{Telling, tells}
use Rattle.flow_trees.specs.Marks as marks
use Rattle.flow_trees.specs.Marks.{operands}
use Rattle.ann_lattice.specs.Shape.{Shape}
use Rattle.ann_lattice.specs.Kind.{is_nothing}
use Rattle.ann_lattice.specs.Laws.{IsTree}
use Rattle.ann_rules.specs.Program.{Whole}
use Rattle.ann_rules.specs.Rules.{is_narrowing, goes}
use Rattle.ann_tree.specs.Annotation.{Annotation, Environment, Point, Handler, Seen, narrow}
use Rattle.ann_tree.specs.Gives as part
use Rattle.ann_tree.specs.Gives.{is_raise, stops}
use Rattle.ann_lift.specs.Spots.{Spots, goes_on, first_unbound, Goes}
use Rattle.ann_lift.proofs.Lists.{one_more, push}
use Rattle.ann_lift.proofs.Lifted.{under, so, seq, straight}
use Rattle.ann_lift.proofs.States.{held_at, bound, spot, at_local, at_in, loose_local, loose_held, Enters, Leads}
use Rattle.ann_lift.proofs.Ways.{led, led_and, goes_keeping, goes_keeping_and, goes_narrowing}
use Rattle.ann_lift.proofs.Watched.{Watched, watched_more}
use Rattle.ann_lift.proofs.Acting.{Lift, unmarked, unmarked_telling, act, act_with, fork}
use Rattle.ann_lift.proofs.Telling.{Good, beside_is}
use Rattle.ann_lift.proofs.Idle as idle

-- ---- what stops

bools : (k l : Bool) → (k || not l) ≡ true → (not k && l) ≡ false
bools true l h = refl
bools false true h = absurd (false≢true h)
bools false false h = refl

pub goes_no_stop : (o : RowOp) (z : Shape) → is_raise o ≡ false → goes_on o z ≡ true → stops o z ≡ false
goes_no_stop o z raises g = ap (λ b. b || (not (is_narrowing o) && is_nothing z)) raises ∙ bools (is_narrowing o) (is_nothing z) g

pub onward_is : (o : RowOp) (q m last : ℕ) → is_raise o ≡ false → onward o q m last ≡ first_and q m last
onward_is row.Raise q m last h = absurd (false≢true (sym h))
onward_is o q m last h = refl

pub onward_raises : (o : RowOp) (q m last : ℕ) → is_raise o ≡ true → onward o q m last ≡ first never_block 0
onward_raises row.Raise q m last h = refl
onward_raises o q m last h = absurd (false≢true h)

module _ (p : Whole) (sites : List (Option Object)) (a : Annotation) (f n : ℕ) (gs : Graphs) (classes : IsTree p.tables.classes) (meant : meaning.Program) where
  abbrev pub L : ℕ → ℕ → (Spots → Type 0) → (Spots → Type 0) → Type 0
  L lo hi C E = Lift p sites a f n gs classes meant lo hi C E

  abbrev pub In : Spots → ℕ → Environment → List Shape → Type 0
  In at b e held = Enters p a f n classes at b e held

  abbrev pub To : Spots → ℕ → Point → List Shape → Type 0
  To at b r held = Leads p a f n classes at b r held

  abbrev pub On : Spots → Environment → List Shape → Jump → Type 0
  On at e held jump = Goes p a f at (spot n e held bound) jump

  abbrev pub Sees : List Handler → Environment → Type 0
  Sees hs e = Seen p.tables.classes a.parts.same n hs e

  -- exceptions are watched for, and what never comes goes where it stays
  abbrev pub Around : Scope → List Handler → List Shape → Spots → Type 0
  Around sc hs held at = Watched p a f n classes at held hs sc.hands sc.default × ((at never_block).reached ≡ true)

  abbrev pub watches : (sc : Scope) (hs : List Handler) (held rest : List Shape) (at : Spots) → Around sc hs held at → Watched p a f n classes at (held ++ rest) hs sc.hands sc.default
  watches sc hs held rest at c = watched_more p a f n classes at held rest hs sc.hands sc.default c.0

  -- with the value that was tested, or without
  abbrev pub WayTo : Spots → ℕ → Point → Option Shape → List Shape → Type 0
  WayTo at k r None held = To at k r held
  WayTo at k r (Some y) held = To at k r (held ++ y ∷ [])

  -- ---- tests

  module _ (C : Spots → Type 0) (sc : Scope) (hs : List Handler) (held xs : List Shape) (x : Shape) (g : Environment) (m value : ℕ) (count_is : m ≡ n + length held) (value_is : value ≡ n + length (held ++ xs)) (around : (at : Spots) → C at → Around sc hs held at) (seen : Sees hs g) where
    abbrev tested : List Shape
    tested = (held ++ xs) ++ x ∷ []

    abbrev told_of : Shape → List Shape
    told_of t = tested ++ t ∷ []

    long : length tested ≡ length (held ++ xs) + 1
    long = one_more (held ++ xs) x

    from_held : (t : Shape) → told_of t ≡ held ++ ((xs ++ x ∷ []) ++ t ∷ [])
    from_held t = ap (λ l. l ++ t ∷ []) (append_assoc held xs (x ∷ [])) ∙ append_assoc held (xs ++ x ∷ []) (t ∷ [])

    value_there : (t : Shape) → held_at n g (told_of t) value ≡ x
    value_there t = at_in n g (held ++ xs) x (t ∷ []) (told_of t) value (push (held ++ xs) x (t ∷ [])) value_is

    way_on : (t : Shape) (node : ℕ) (told : Option Telling) (to : ℕ) (v : Option Shape) (jump : Jump) (lo hi : ℕ) → marks.WayOn meant gs f n sc node told m value (is_some v) to jump lo hi
        → (r : Point) → Good (length xs) told → part.GoesOn p sites a n node told xs x g r v → ((at : Spots) → C at → WayTo at to r v held) → L lo hi C (λ at. On at g (told_of t) jump)
    way_on t node told to (Some y) jump lo hi h r good j ways =
        straight p a f gs h.1 (λ at c. subst (λ u. On at g (told_of t) u) (sym h.0)
        (goes_keeping_and p a f n classes at to m value g held ((xs ++ x ∷ []) ++ t ∷ []) (told_of t) x (from_held t) count_is (value_there t) (omega (arith, value_is)) (led_and p a f n classes at to r g held x y j.0 j.1 (ways at c))))
    way_on t node None to None jump lo hi h r good j ways =
        straight p a f gs h.1 (λ at c. subst (λ u. On at g (told_of t) u) (sym h.0)
        (goes_keeping p a f n classes at to m g held ((xs ++ x ∷ []) ++ t ∷ []) (told_of t) (from_held t) count_is (led p a f n classes at to r g held j (ways at c))))
    way_on t node (Some tell) to None jump lo hi h r good j ways =
        let w = value + 1 in
        let all = tested ++ j.0 ∷ [] in
        let u : ℕ → Bool = λ i. if i == w then g.unbound tell.local else false in
        let u_there : u w ≡ g.unbound tell.local = ap (λ b. if b then g.unbound tell.local else false) (eq-eqb w w refl) in
        let quiet : (i : ℕ) → i < w → n ≤ i → u i ≡ false = λ i lt le. ap (λ b. if b then g.unbound tell.local else false) (ne_eqb i w (λ e. omega (arith, lt, e))) in
        let all_is : all ≡ held ++ (xs ++ (x ∷ j.0 ∷ [])) = push (held ++ xs) x (j.0 ∷ []) ∙ append_assoc held xs (x ∷ j.0 ∷ []) in
        let first_is : held_at n g all tell.local ≡ g.element tell.local = at_local n g all tell.local h.1 in
        let places : map (held_at n g all) (operands tell m) ≡ g.element tell.local ∷ part.beside tell.beside xs = ap (λ y. y ∷ map (held_at n g all) (marks.beside_place tell.beside m)) first_is ∙ ap (λ l. g.element tell.local ∷ l) (beside_is n g held xs (x ∷ j.0 ∷ []) all m tell.beside all_is count_is good.2) in
        let loose : first_unbound (spot n g all u) (operands tell m) ≡ g.unbound tell.local = loose_local n g u tell.local h.1 in
        let there : held_at n g all w ≡ j.0 = at_in n g tested j.0 [] all w refl (omega (arith, value_is, long)) in
        so p a f gs (λ at c e. subst (λ k. On at g (told_of t) k) (sym h.4) (goes_keeping p a f n classes at h.0 w g tested (t ∷ []) (told_of t) refl (omega (arith, value_is, long)) e))
        (act_with p sites a f n gs classes meant sc h.0 node false tell.op (operands tell m) w (stored to m tell.local w) h.3 g tested u hs (g.element tell.local ∷ part.beside tell.beside xs) j.0 (omega (arith, value_is, long)) quiet seen places j.1 tt (unmarked_telling p sites a f n gs classes meant node tell.op (g.element tell.local ∷ part.beside tell.beside xs) good.1)
        (λ k. absurd (false≢true (sym (ap (λ b. b && first_unbound (spot n g all u) (operands tell m)) good.0) ∙ k)))
        (λ k. u_there ∙ (sym loose ∙ (sym (ap (λ b. b && first_unbound (spot n g all u) (operands tell m)) good.1) ∙ k)))
        (λ at c. subst (λ l. Watched p a f n classes at l hs sc.hands sc.default) (sym (append_assoc held xs (x ∷ []))) (watches sc hs held (xs ++ x ∷ []) at (around at c)))
        (λ k at c. goes_narrowing p a f n classes at to m tell.local w g u held (xs ++ (x ∷ j.0 ∷ [])) all j.0 all_is count_is there (omega (arith, value_is)) h.1 u_there quiet (omega (arith, value_is, length-append held xs)) (led p a f n classes at to r (narrow g tell.local j.0) held j.2 (ways at c))))

    pub truth : (node : ℕ) (l : Expr) (b to1 to2 : ℕ) (v1 v2 : Option Shape) (lo hi : ℕ) → marks.Truth meant gs f n sc node l b m value (record { to = to1; value = is_some v1 }) (record { to = to2; value = is_some v2 }) lo hi
        → (r1 r2 : Point) → Good (length xs) (tells l true) → Good (length xs) (tells l false) → part.Decides p sites a n hs node l xs x g (record { to = r1; value = v1 }) (record { to = r2; value = v2 })
        → ((at : Spots) → C at → WayTo at to1 r1 v1 held) → ((at : Spots) → C at → WayTo at to2 r2 v2 held) → L lo hi C (λ at. In at b g tested)
    truth node l b to1 to2 v1 v2 lo hi h r1 r2 good1 good2 j ways1 ways2 =
        let t = j.1 in
        let w = value + 1 in
        let there : held_at n g (told_of t) w ≡ t = at_in n g tested t [] (told_of t) w refl (omega (arith, value_is, long)) in
        so p a f gs (λ at c e. e.1.1.1)
        (seq p a f gs (one_way t node (tells l true) to1 v1 h.1 lo h.3 h.6 r1 good1 true j.3 ways1)
        (seq p a f gs (under p a f gs (λ at c. c.0) (one_way t node (tells l false) to2 v2 h.2 h.3 h.4 h.7 r2 good2 false j.4 ways2))
        (seq p a f gs (fork p sites a f n gs classes meant h.0 (w + 1) w h.1 h.2 h.8 g (told_of t) t there (λ at c. c.0.1) (λ at c. c.1))
        (act p sites a f n gs classes meant sc b node false row.Truth (value ∷ []) w (first_and h.0 w w) h.9 g tested hs (x ∷ []) t (omega (arith, value_is, long)) seen (ap (λ y. y ∷ []) (value_there t)) (loose_held n g bound value (omega (arith, value_is))) j.2 tt (unmarked p sites a f n gs classes meant node false row.Truth (x ∷ []) refl refl)
        (λ at c. subst (λ k. Watched p a f n classes at k hs sc.hands sc.default) (sym (append_assoc held xs (x ∷ []))) (watches sc hs held (xs ++ x ∷ []) at (around at c.0.0.0)))
        (λ k at c. goes_keeping_and p a f n classes at h.0 w w g tested (t ∷ []) (told_of t) t refl (omega (arith, value_is, long)) there (omega (arith, value_is)) c.1)))))
      where
        one_way : (t : Shape) (node : ℕ) (told : Option Telling) (to : ℕ) (v : Option Shape) (jump : Jump) (lo hi : ℕ) → marks.WayOn meant gs f n sc node told m value (is_some v) to jump lo hi
            → (r : Point) → Good (length xs) told → (way : Bool) → (goes way t ≡ true → part.GoesOn p sites a n node told xs x g r v) → ((at : Spots) → C at → WayTo at to r v held) → L lo hi C (λ at. goes way t ≡ true → On at g (told_of t) jump)
        one_way t node told to v jump lo hi h r good way j ways = chosen (goes way t) refl
          where
            chosen : (b : Bool) → goes way t ≡ b → L lo hi C (λ at. goes way t ≡ true → On at g (told_of t) jump)
            chosen true is = so p a f gs (λ at c e k. e) (way_on t node told to v jump lo hi h r good (j is) ways)
            chosen false is = so p a f gs (λ at c e k. absurd (false≢true (sym is ∙ k))) (under p a f gs (λ at c. tt) (idle.way_on p sites a f n gs classes meant sc node told m value (is_some v) to jump lo hi h))
