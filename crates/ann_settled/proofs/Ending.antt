-- What growing came to is the least that is closed and free, or shows that there is none.
use Rattle.std.proofs.Common.{◌≡◌, ◌<◌, ◌≤◌, ℕ, zero, suc, ◌+◌, ◌^◌, Bool, true, false, List, [], ◌∷◌, ◌++◌, length, get_or, replicate, Ok, Err, refl, sym, ap, ◌∙◌, subst, ◌⊎◌, inl, inr, arith}
use Rattle.std.specs.Prelude.{◌==◌, ◌||◌}
use Rattle.std.proofs.lemmas.List.{length-append, length-replicate, get_or_past}
use Rattle.std.proofs.lemmas.Bool.Decides.{Decides-eqb}
use Rattle.rpy_tree.specs.declared.program.ClassInfo.{ClassInfo}
use Rattle.rpy_tree.specs.declared.program.Program.{Program}
use Rattle.flow_graph.specs.declared.graph.Graphs.{Graphs}
use Rattle.class_desc.specs.Tables.{Tables}
use Rattle.ann_element.specs.Sites.{alone, below, leader}
use Rattle.ann_lattice.specs.Shape.{Nothing}
use Rattle.ann_lattice.specs.Join.{is_clash}
use Rattle.ann_lattice.specs.Laws.{IsFormed}
use Rattle.ann_lattice.specs.Assign.{Assignment, Rules, Grown, begin, step, at, Free, IsTable}
use Rattle.ann_lattice.proofs.Tables.{meet_table}
use Rattle.ann_laws.specs.Rows.{HasClasses}
use Rattle.ann_laws.proofs.Pairs.{no}
use Rattle.ann_rules.specs.Rules.{rules}
use Rattle.ann_grown.specs.Partial as partial
use Rattle.ann_grown.proofs.Meeting.{grown_cells, partial_grown, partial_first, none_free}
use Rattle.ann_grown.proofs.Naming.{partial_named, free_named}
use Rattle.ann_meets.specs.Steps.{spots_in, FirstAt, Stopped}
use Rattle.ann_meets.specs.declared.stop.Stop.{Stop}
use Rattle.ann_meets.specs.declared.stop.Stop.TheVariants as stop
use Rattle.ann_states.specs.Marked.{AreSpots}
use Rattle.ann_shown.specs.Told.{HasLeaders, IsTold, IsMet}
use Rattle.ann_shown.specs.declared.told.Told.{Told}
use Rattle.ann_shown.proofs.Rowing.{of_row}
use Rattle.ann_needs.specs.View.{nowhere, whole}
use Rattle.ann_needs.specs.declared.state.State.{State}
use Rattle.ann_layout.specs.Layout.{planned}
use Rattle.ann_layout.specs.declared.layout.Planned.{Planned}
use Rattle.ann_places.specs.Spots.{among, spot_cells, spots, start}
use Rattle.ann_places.proofs.Spotting.{is_placed, alone_table}
use Rattle.ann_settled.specs.Settled as spec
use Rattle.ann_settled.specs.declared.settle.Unsettled.{Unsettled}
use Rattle.ann_settled.specs.declared.settle.Unsettled.TheVariants as unsettled

empty_cell : (n c : ℕ) → get_or (replicate n Nothing) c Nothing ≡ Nothing
empty_cell zero c = refl
empty_cell (suc n) zero = refl
empty_cell (suc n) (suc c) = empty_cell n c

nothing_formed : IsFormed Nothing
nothing_formed = record { sound = refl; shallow = omega arith }

pub basis : (p : Program) (gs : Graphs) (t : Tables) → HasClasses t → 0 < length p.sites → spec.Basis p (planned p gs t)
basis p gs t classes lt = record {
  classes = classes;
  placed = is_placed p gs t;
  table = alone_table p.sites lt;
  formed = λ c. subst IsFormed (sym (empty_cell (planned p gs t).cells c)) nothing_formed;
}

-- ---- marks

or_first : (a b : Bool) → a ≡ true → (a || b) ≡ true
or_first true b e = refl
or_first false b e = absurd (no e)

or_second : (a b c : Bool) → (b ≡ true → c ≡ true) → (a || b) ≡ true → (a || c) ≡ true
or_second true b c f e = refl
or_second false b c f e = f e

within_or_past : (c n : ℕ) → (c < n) ⊎ (n ≤ c)
within_or_past c n = grind arith

module _ (q : Planned) (marks : List Bool) (h : AreSpots q.plan q.cells marks) where
  spot_on : (c : ℕ) → spots_in marks c ≡ true → spots q.plan c ≡ true
  spot_on c e = or_second (c == nowhere) (get_or marks c false) (among c (spot_cells q.plan)) (h.only c) e

  free_on : (a : Assignment) → length a.cells ≡ q.cells → Free (spots_in marks) a → Free (spots q.plan) a
  free_on a n free c e = by_place (within_or_past c q.cells)
    where
      by_place : (c < q.cells) ⊎ (q.cells ≤ c) → is_clash (at a c) ≡ false
      by_place (inl lt) = free c (or_second (c == nowhere) (among c (spot_cells q.plan)) (get_or marks c false) (h.each c lt) e)
      by_place (inr le) = ap is_clash (get_or_past a.cells c Nothing (omega (arith, le, n)))

-- ---- the beginning

module _ (p : Program) (q : Planned) where
  begin_free : (free : ℕ → Bool) → Free free (spec.begin p q)
  begin_free free c e = ap is_clash (empty_cell q.cells c)

  begins : (free : ℕ → Bool) → partial.IsGrown (whole q.plan) free (spec.begin p q) (spec.begin p q)
  begins free = record { grown = begin; free = begin_free free }

  begin_cells : length (spec.begin p q).cells ≡ q.cells
  begin_cells = length-replicate q.cells Nothing

  cells_there : (a : Assignment) → Grown q.plan.classes.classes (rules (whole q.plan)) (spec.begin p q) a → length a.cells ≡ q.cells
  cells_there a g = grown_cells (whole q.plan) (spec.begin p q) a g ∙ begin_cells

-- ---- the end

module _ (p : Program) (q : Planned) (marks : List Bool) (h : AreSpots q.plan q.cells marks) (a : Assignment) (is : a ≡ spec.begin p q) where
  pub settled : (s : State) → spec.Settles q (spots_in marks) a s → spec.Ends p q (Ok s)
  settled s f =
      let g = f (spec.begin p q) (subst (partial.IsGrown (whole q.plan) (spots_in marks) (spec.begin p q)) (sym is) (begins p q (spots_in marks))) in (
        record {
          complete = g.named.all.complete;
          closed = g.named.all.closed;
          free = subst (Free (spots q.plan)) (sym g.named.named)
              (free_named (spots q.plan) g.grown (free_on q marks h g.grown (cells_there p q g.grown g.is_grown.grown) g.is_grown.free));
        },
        (
          λ b. subst (partial.IsPartial (whole q.plan) (spots q.plan) (spec.begin p q)) (sym g.named.named)
              (partial_named (whole q.plan) (spots q.plan) (spec.begin p q) g.grown (partial_grown (whole q.plan) (spots q.plan) (spec.begin p q) g.grown b g.is_grown.grown)),
          record {
            grown = g.grown;
            is_grown = record { grown = g.is_grown.grown; free = free_on q marks h g.grown (cells_there p q g.grown g.is_grown.grown) g.is_grown.free };
            named = g.named.named;
          },
        ),
      )

  first_at : (b : Assignment) (c : ℕ) → partial.IsFirst (whole q.plan) (spots_in marks) (spec.begin p q) b c → partial.IsFirst (whole q.plan) (spots q.plan) (spec.begin p q) b c
  first_at b c f = record {
    before = f.before;
    grown = record { grown = f.grown.grown; free = free_on q marks h f.before (cells_there p q f.before f.grown.grown) f.grown.free };
    rule = f.rule;
    step = f.step;
    spot = spot_on q marks h c f.spot;
    clash = f.clash;
  }

  met_at : (b : Assignment) (c : ℕ) (t : Told) → partial.IsFirst (whole q.plan) (spots q.plan) (spec.begin p q) b c → IsTold p (whole q.plan) b c t
      → spec.NoneFree p q × IsMet p q.plan (spec.begin p q) t
  met_at b c t f told = (
    λ basis. none_free (whole q.plan) (spots q.plan) (spec.begin p q) b (partial_first (whole q.plan) (spots q.plan) (spec.begin p q) b c basis f) c f.spot f.clash,
    record { cell = c; after = b; first = f; told = told; row = of_row (whole q.plan) (spots q.plan) (spec.begin p q) b c f },
  )

  pub stopped : (b : Assignment) (e : Stop) (u : Unsettled) → Stopped (whole q.plan) (spots_in marks) a b e → spec.Tells p q b e u → spec.Ends p q (Err u)
  stopped b e unsettled.NoMem f t = tt
  stopped b e (unsettled.Conflict told) f t =
      let at_stop : FirstAt (whole q.plan) (spots_in marks) (spec.begin p q) b e =
      f (spec.begin p q) (subst (partial.IsGrown (whole q.plan) (spots_in marks) (spec.begin p q)) (sym is) (begins p q (spots_in marks))) in
      met_at b t.0 told (first_at b t.0 (subst (FirstAt (whole q.plan) (spots_in marks) (spec.begin p q) b) t.1.0 at_stop)) t.1.1

-- ---- a conflict can be told

length_below : (n : ℕ) → length (below n) ≡ n
length_below zero = refl
length_below (suc n) =
    let all : length (below n ++ n ∷ []) ≡ length (below n) + 1 = length-append (below n) (n ∷ []) in omega (arith, length_below n, all)

module _ (k : List ClassInfo) (rules : Rules) (start : Assignment) (n : ℕ) (table : IsTable n start.same) where
  still_table : (a : Assignment) → Grown k rules start a → IsTable n a.same
  still_table _ begin = table
  still_table _ (step a r g) = meet_table n k (rules r a) a (still_table a g)

or_either : (a b : Bool) → (a || b) ≡ true → (a ≡ true) ⊎ (b ≡ true)
or_either true b e = inl refl
or_either false b e = inr e

module _ (p : Program) (q : Planned) (b : Assignment) (grown : Grown q.plan.classes.classes (rules (whole q.plan)) (spec.begin p q) b) where
  leaders : HasLeaders p b.same
  leaders = record {
    within = λ lt s.
        let table = still_table q.plan.classes.classes (rules (whole q.plan)) (spec.begin p q) (length (alone p.sites)) (alone_table p.sites lt) b grown in
        subst (λ (n : ℕ). leader b.same s < n) (length_below (length p.sites)) (table.sites s);
  }

  -- a conflict stands in a cell that there is
  not_nowhere : (c : ℕ) → q.cells < 2 ^ 64 → is_clash (at b c) ≡ true → c ≡ nowhere → ⊥
  not_nowhere c fits clash e =
      no (sym (ap is_clash (get_or_past b.cells c Nothing (past (length b.cells) (cells_there p q b grown)))) ∙ clash)
    where
      past : (n : ℕ) → n ≡ q.cells → n ≤ c
      past n is = omega (arith, fits, e, is)

module _ (p : Program) (q : Planned) (marks : List Bool) (h : AreSpots q.plan q.cells marks) (a : Assignment) (is : a ≡ spec.begin p q) where
  tellable_at : (b : Assignment) (c : ℕ) → q.cells < 2 ^ 64 → partial.IsFirst (whole q.plan) (spots_in marks) (spec.begin p q) b c → spec.IsTellable p q b (stop.Conflict c)
  tellable_at b c fits f = (by_mark (or_either (c == nowhere) (get_or marks c false) f.spot), leaders p q b grown)
    where
      grown : Grown q.plan.classes.classes (rules (whole q.plan)) (spec.begin p q) b
      grown = subst (Grown q.plan.classes.classes (rules (whole q.plan)) (spec.begin p q)) (sym f.step) (step f.before f.rule f.grown.grown)

      by_mark : ((c == nowhere) ≡ true) ⊎ (get_or marks c false ≡ true) → among c (spot_cells q.plan) ≡ true
      by_mark (inl e) = absurd (not_nowhere p q b grown c fits f.clash ((Decides-eqb c nowhere).0 e))
      by_mark (inr e) = h.only c e

  pub tellable : (b : Assignment) (e : Stop) → q.cells < 2 ^ 64 → Stopped (whole q.plan) (spots_in marks) a b e → spec.IsTellable p q b e
  tellable b stop.NoMem fits f = tt
  tellable b (stop.Conflict c) fits f =
      tellable_at b c fits (f (spec.begin p q) (subst (partial.IsGrown (whole q.plan) (spots_in marks) (spec.begin p q)) (sym is) (begins p q (spots_in marks))))

-- ---- one sweep more

pub settles_by : (q : Planned) (free : ℕ → Bool) (a b c : Assignment) (s : State) → partial.Keeps (whole q.plan) free a b → partial.Keeps (whole q.plan) free b c → spec.IsNamed q c s → spec.Settles q free a s
settles_by q free a b c s f g named start h = record { grown = c; is_grown = g start (f start h); named = named }
