-- `finally`, and each statement.
use Rattle.std.proofs.Common.{◌≡◌, ◌+◌, ◌≤◌, ℕ, true, false, List, [], ◌∷◌, inl, inr, Some, None, arith, subst}
use Rattle.rpy_meaning.specs.declared.row.RowOp.TheVariants as row
use Rattle.flow_stands.specs.Places.{Aim, Scope, Ways, onto, Go, GiveBack, first, first_and, on_to}
use Rattle.flow_stands.specs.Stands.{return_block, never_block}
use Rattle.flow_trees.specs.Tree.{Stmt, Pass, Break, Continue, Return, Do, Assign, Augment, If, While, For, Try, Finally, Block, done, line, Clauses, no_clauses, clause}
use Rattle.flow_trees.specs.Marks as marks
use Rattle.ann_lattice.specs.Shape.{Shape as Element, Inst}
use Rattle.ann_tree.specs.Annotation.{Environment, Point, Goal, Towards as Heads, Exits, Handler, At, elements_with}
use Rattle.ann_read.proofs.Places.{with_at}
use Rattle.ann_read.proofs.Links.{Known, Fits, var, in_at, front, Enters, Wide, go_first, go_and}
use Rattle.ann_read.proofs.Points.{Agree, agree_with, agree_before, agree_on, agree_self, enters_less, LeadsTo, point, at_point, with_input, towards_point}
use Rattle.ann_read.proofs.Acts.{SeenBy, Catches, catches_on, acted, seen}
use Rattle.ann_read.proofs.Held.{acts_wide, is_wide, goes_on}
use Rattle.ann_read.proofs.Exits.{GoesTo, Heading, Returning, ExitsFor, exits_onto}
use Rattle.ann_read.proofs.Stmts.{HasBlock, LeavesAll, pass_sim, break_sim, continue_sim, return_sim, do_sim, assign_sim, augment_stmt, if_sim}
use Rattle.ann_read.proofs.Loops.{OfStmt, OfBlock, while_sim, for_sim, done_sim, line_sim, ClausesSim, no_clauses_sim, bare_sim, clause_sim, try_sim}
use Rattle.ann_read.specs.Plain.{ReturnsPlainly, AllReturnPlainly, ClausesReturnPlainly}

module _ (c : Known) (lo1 hi1 : ℕ) (back : marks.Is c.program c.graphs c.f c.n return_block 1 GiveBack lo1 hi1) where
  abbrev All : List Handler → Block → Environment → Exits → Type 0
  All = LeavesAll c lo1 hi1 back

  -- behind a pass of the last part its exit is left for
  pass_exit : (sc : Scope) (hs : List Handler) (last : Block) → OfBlock c lo1 hi1 back last → (aim : Aim) (goal : Goal) (b to m : ℕ) (t : Ways) (l1 l2 l3 l4 : ℕ) (h : ℕ → Element) (x : Exits) → HasBlock c lo1 hi1 back sc last b m (onto t to) l1 l2
      → marks.Is c.program c.graphs c.f c.n to m (Go (on_to aim)) l3 l4 → c.n ≤ m → Catches c sc hs m h → ExitsFor c t m h x → Heading c aim m h goal
      → At (point c b h m) (λ g. (behind : Point) × All hs last g (record x { next = behind }) × At behind (λ i. GoesTo c i goal))
  pass_exit sc hs last of_last aim goal b to m t l1 l2 l3 l4 h x has leaving le catches exits heading =
      let wide = is_wide c to m (Go (on_to aim)) l3 l4 leaving in
      let behind : Point = point c to h m in
      at_point c b m h (λ g. (behind : Point) × All hs last g (record x { next = behind }) × At behind (λ i. GoesTo c i goal))
      (λ i. (
        behind,
        of_last.sim sc hs b m (onto t to) l1 l2 (front c b) h (record x { next = behind }) has le i catches (exits_onto c t m m to h h x behind (omega arith) (agree_self m h) exits wide (towards_point c to m m h wide (omega arith) le)),
        at_point c to m h (λ i. GoesTo c i goal)
            (λ j.
            let went = goes_on c to m (on_to aim) l3 l4 (front c to) h leaving le j in
            heading.leads (front c to) (go_first c leaving.0.0 m (front c to) h went.around aim.to aim.keep heading.low heading.high went.linked)),
      ))

  -- with the value that is returned
  returns_on : (ret : Aim) (goal : Goal) (to m lo hi : ℕ) (e : Environment) (h : ℕ → Element) (v : Element) → marks.Is c.program c.graphs c.f c.n to (m + 1) (Go (first_and ret.to ret.keep m)) lo hi → c.n ≤ m
      → Enters c to (m + 1) e (elements_with h m v) → Returning c ret m h goal → GoesTo c e goal
  returns_on ret goal to m lo hi e h v leaving le enters (inl r) = r.2 e
  returns_on ret goal to m lo hi e h v leaving le enters (inr r) =
      let g : ℕ → Element = elements_with h m v in
      let went = goes_on c to (m + 1) (first_and ret.to ret.keep m) lo hi e g leaving (omega (arith, le)) enters in
      let base : ℕ = leaving.0.0 in
      let high = r.high in
      let fits : Fits c v (var c (base + m)) = subst (λ y. Fits c y (var c (base + m))) (with_at h m v) (went.around.held m le (omega arith)) in
      r.leads e v
      (enters_less c ret.to (ret.keep + 1) (ret.keep + 1) e (elements_with g ret.keep v) (elements_with h ret.keep v) (omega arith) (agree_with ret.keep g h v (agree_before m ret.keep h v high))
      (go_and c base (m + 1) e g went.around ret.to ret.keep m v r.low (omega (arith, high)) fits went.linked))

  pub finally_sim : (node : ℕ) (body last : Block) → OfBlock c lo1 hi1 back body → OfBlock c lo1 hi1 back last → OfStmt c lo1 hi1 back (Finally node body last)
  finally_sim node body last of_body of_last = record {
    wide = λ sc b m t lo hi has w.
        of_body.wide (record { hands = []; default = record { to = has.4; keep = m }; covers = sc.covers; tried = true }) b m
        (record { norm = has.0; brk = record { to = has.1; keep = m }; cont = record { to = has.2; keep = m }; ret = record { to = has.3; keep = m } }) has.17 hi has.27 (of_last.wide sc has.0 m t lo has.9 has.18 w);
    sim = λ sc hs b m t lo hi e h x has le enters catches exits.
        let norm : ℕ = has.0 in
        let brk : ℕ = has.1 in
        let cont : ℕ = has.2 in
        let ret : ℕ = has.3 in
        let exc : ℕ = has.4 in
        let to_brk : ℕ = has.5 in
        let to_cont : ℕ = has.6 in
        let to_ret : ℕ = has.7 in
        let to_exc : ℕ = has.8 in
        let inner : Scope = record { hands = []; default = record { to = exc; keep = m }; covers = sc.covers; tried = true } in
        let ways : Ways = record { norm = norm; brk = record { to = brk; keep = m }; cont = record { to = cont; keep = m }; ret = record { to = ret; keep = m } } in
        let norm_wide = of_last.wide sc norm m t lo has.9 has.18 exits.wide in
        let to_brk_wide = is_wide c to_brk m (Go (on_to t.brk)) has.9 has.10 has.19 in
        let brk_wide = of_last.wide sc brk m (onto t to_brk) has.10 has.11 has.20 to_brk_wide in
        let to_cont_wide = is_wide c to_cont m (Go (on_to t.cont)) has.11 has.12 has.21 in
        let cont_wide = of_last.wide sc cont m (onto t to_cont) has.12 has.13 has.22 to_cont_wide in
        let to_ret_wide = is_wide c to_ret (m + 1) (Go (first_and t.ret.to t.ret.keep m)) has.13 has.14 has.23 in
        let ret_wide = of_last.wide sc ret (m + 1) (onto t to_ret) has.14 has.15 has.24 to_ret_wide in
        let raise_norm = first never_block 0 in
        let to_exc_wide = acts_wide c sc to_exc node false row.Raise (m ∷ []) (m + 1) raise_norm has.15 has.16 has.25 in
        let exc_wide = of_last.wide sc exc (m + 1) (onto t to_exc) has.16 has.17 has.26 to_exc_wide in
        let le1 : c.n ≤ m + 1 = omega (arith, le) in
        let next : Point = point c norm h m in
        let broken : Point = point c brk h m in
        let continued : Point = point c cont h m in
        let returned : Point = point c ret h m in
        let raised : Point = point c exc h m in
        let drops : (q : ℕ) → Wide c q (m + 1) → (g : Environment) (f : ℕ → Element) (v : Element) → Agree m f h → Enters c q (m + 1) g (elements_with f m v) → LeadsTo c g (point c q h m) =
        λ q wide g f v a i. towards_point c q m (m + 1) h wide (omega arith) le g
        (enters_less c q (m + 1) m g (elements_with f m v) h (omega arith) (agree_on m m (elements_with f m v) f h (omega arith) (agree_before m m f v (omega arith)) a) i) in (
          next,
          broken,
          continued,
          returned,
          raised,
          of_body.sim inner (record { point = raised; bound = None } ∷ []) b m ways has.17 hi e h (record { next = next; broken = Heads broken; continued = Heads continued; returned = Heads returned }) has.27 le enters
              (record {
                hands = tt;
                default = omega arith;
                seen = λ g f a thrown. (drops exc exc_wide g f (Inst 0 false) a (thrown le), tt);
                quiet = λ t. always_tried t;
              })
              (record {
                wide = norm_wide;
                next = towards_point c norm m m h norm_wide (omega arith) le;
                broken = record { low = le; high = omega arith; leads = λ g i. towards_point c brk m m h brk_wide (omega arith) le g i };
                continued = record { low = le; high = omega arith; leads = λ g i. towards_point c cont m m h cont_wide (omega arith) le g i };
                returned = inr (record { low = le; high = omega arith; wide = ret_wide; leads = λ g v i. drops ret ret_wide g h v (agree_self m h) i });
              }),
          at_point c norm m h (λ g. All hs last g x) (λ i. of_last.sim sc hs norm m t lo has.9 (front c norm) h x has.18 le i catches exits),
          pass_exit sc hs last of_last t.brk x.broken brk to_brk m t has.10 has.11 has.9 has.10 h x has.20 has.19 le catches exits exits.broken,
          pass_exit sc hs last of_last t.cont x.continued cont to_cont m t has.12 has.13 has.11 has.12 h x has.22 has.21 le catches exits exits.continued,
          at_point c ret m h (λ g. (behind : Point) × All hs last g (record x { next = behind }) × At behind (λ i. GoesTo c i x.returned))
              (λ i.
              let v : Element = in_at c ret m in
              let g1 : ℕ → Element = elements_with h m v in
              let agree : Agree m g1 h = agree_before m m h v (omega arith) in
              let behind : Point = point c to_ret g1 (m + 1) in (
                behind,
                of_last.sim sc hs ret (m + 1) (onto t to_ret) has.14 has.15 (front c ret) g1 (record x { next = behind }) has.24 le1 (with_input c ret m (front c ret) h i)
                    (catches_on c sc hs m (m + 1) g1 h (omega arith) agree catches)
                    (exits_onto c t m (m + 1) to_ret g1 h x behind (omega arith) agree exits to_ret_wide (towards_point c to_ret (m + 1) (m + 1) g1 to_ret_wide (omega arith) le1)),
                at_point c to_ret (m + 1) g1 (λ i. GoesTo c i x.returned) (λ j. returns_on t.ret x.returned to_ret m has.13 has.14 (front c to_ret) h v has.23 le j exits.returned),
              )),
          at_point c exc m h (λ g. (behind : Point) × All hs last g (record x { next = behind }) × At behind (λ i. SeenBy c hs i))
              (λ i.
              let v : Element = in_at c exc m in
              let g1 : ℕ → Element = elements_with h m v in
              let agree : Agree m g1 h = agree_before m m h v (omega arith) in
              let behind : Point = point c to_exc g1 (m + 1) in (
                behind,
                of_last.sim sc hs exc (m + 1) (onto t to_exc) has.16 has.17 (front c exc) g1 (record x { next = behind }) has.26 le1 (with_input c exc m (front c exc) h i)
                    (catches_on c sc hs m (m + 1) g1 h (omega arith) agree catches)
                    (exits_onto c t m (m + 1) to_exc g1 h x behind (omega arith) agree exits to_exc_wide (towards_point c to_exc (m + 1) (m + 1) g1 to_exc_wide (omega arith) le1)),
                at_point c to_exc (m + 1) g1 (λ i. SeenBy c hs i)
                    (λ j.
                    let does = acted c sc to_exc node false row.Raise (m ∷ []) (m + 1) raise_norm has.15 has.16 (front c to_exc) g1 has.25 le1 j in
                    seen c sc has.25.0.0 (m + 1) node false row.Raise (m ∷ []) raise_norm (front c to_exc) g1 does hs m h (omega arith) agree catches),
              )),
        );
  }
    where
      always_tried : {A : Type 0} → true ≡ false → A
      always_tried e = cc

  -- ---- all of them

  mutual
    pub stmt_sims : (s : Stmt) → ReturnsPlainly s → OfStmt c lo1 hi1 back s
    stmt_sims (Pass node) h = pass_sim c lo1 hi1 back node
    stmt_sims (Break node) h = break_sim c lo1 hi1 back node
    stmt_sims (Continue node) h = continue_sim c lo1 hi1 back node
    stmt_sims (Return node e) h = return_sim c lo1 hi1 back node e h
    stmt_sims (Do node e) h = do_sim c lo1 hi1 back node e
    stmt_sims (Assign node ts e) h = assign_sim c lo1 hi1 back node ts e
    stmt_sims (Augment node target o e) h = augment_stmt c lo1 hi1 back node target o e
    stmt_sims (If node e so other) h = if_sim c lo1 hi1 back node e so other (block_sims so h.0) (block_sims other h.1)
    stmt_sims (While node e body) h = while_sim c lo1 hi1 back node e body (block_sims body h)
    stmt_sims (For node target subject body) h = for_sim c lo1 hi1 back node target subject body (block_sims body h)
    stmt_sims (Try node body clauses other) h = try_sim c lo1 hi1 back node body clauses other (block_sims body h.0) (clauses_sims clauses h.1) (block_sims other h.2)
    stmt_sims (Finally node body last) h = finally_sim node body last (block_sims body h.0) (block_sims last h.1)

    pub block_sims : (bl : Block) → AllReturnPlainly bl → OfBlock c lo1 hi1 back bl
    block_sims done h = done_sim c lo1 hi1 back
    block_sims (line s rest) h = line_sim c lo1 hi1 back s rest (stmt_sims s h.0) (block_sims rest h.1)

    clauses_sims : (cs : Clauses) → ClausesReturnPlainly cs → ClausesSim c lo1 hi1 back cs
    clauses_sims no_clauses h = no_clauses_sim c lo1 hi1 back
    clauses_sims (clause None local body rest) h = bare_sim c lo1 hi1 back local body rest (block_sims body h.0)
    clauses_sims (clause (Some classes) local body rest) h = clause_sim c lo1 hi1 back classes local body rest (block_sims body h.0) (clauses_sims rest h.1)
