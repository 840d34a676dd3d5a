-- Loops, `try` and `finally`, and all statements.
use Rattle.std.proofs.Common.{◌≡◌, ◌+◌, ◌≤◌, ℕ, true, false, List, [], ◌∷◌, ◌++◌, Option, Some, None, refl, sym, arith, subst}
use Rattle.rpy_meaning.specs.declared.row.RowOp.TheVariants as row
use Rattle.flow_stands.specs.Places.{Aim, Hand, Scope, Ways, onto, Go, GiveBack, first, first_and}
use Rattle.flow_stands.specs.Stands.{return_block, never_block, hands_of, LocalIn}
use Rattle.flow_stands.specs.Stands as graph
use Rattle.rpy_meaning.specs.Classes.{covers_within}
use Rattle.flow_trees.specs.Tree.{node_of, Expr, Target, Subject, Stmt, While, For, Try, Block, done, line, Clauses, no_clauses, clause, plain_subject, plain_clauses}
use Rattle.flow_trees.specs.Marks as marks
use Rattle.ann_lattice.specs.Shape.{Shape as Element, Inst}
use Rattle.ann_tree.specs.Annotation.{Environment, Point, Exits, within, Handler, handlers, caught, with_class, elements_with}
use Rattle.ann_tree.specs.Gives as part
use Rattle.ann_tree.specs.Leaves as leaves
use Rattle.ann_read.proofs.Links.{Known, in_at, front, Enters, Wide, go_first}
use Rattle.ann_read.proofs.Points.{Agree, agree_before, agree_on, agree_self, enters_less, LeadsTo, point, at_point, Towards, towards_point}
use Rattle.ann_read.proofs.Acts.{annotation, Thrown, Low, SeenBy, Catches, acted, seen}
use Rattle.ann_read.proofs.Held.{acts_wide, is_wide, goes_on}
use Rattle.ann_read.proofs.Walks.{never_stops, walked_point}
use Rattle.ann_read.proofs.Turns.{Pair, pair_agree, caught_pair, turns_sim}
use Rattle.ann_read.proofs.Trees.{expr_sims, subject_sims, bind_sims, take_of}
use Rattle.ann_read.proofs.Exits.{ExitsFor, returning_more, exits_onto, mark_sim, mark_wide}
use Rattle.ann_read.proofs.Stmts.{LeavesAll, StmtSim, BlockSim}

module _ (c : Known) (lo1 hi1 : ℕ) (back : marks.Is c.program c.graphs c.f c.n return_block 1 GiveBack lo1 hi1) where
  abbrev pub OfStmt : Stmt → Type 0
  OfStmt = StmtSim c lo1 hi1 back

  abbrev pub OfBlock : Block → Type 0
  OfBlock = BlockSim c lo1 hi1 back

  -- in a loop the next turn and what is behind it are exits
  loop_exits : (t : Ways) (m l turn : ℕ) (g h : ℕ → Element) (x : Exits) (q : Point) → c.n ≤ m → m ≤ l → Agree m g h → ExitsFor c t m h x → Wide c turn l → Towards c turn l g q
      → ExitsFor c (graph.within c.program c.graphs c.f c.n t (record { to = turn; keep = l }) (record { to = t.norm; keep = m })) l g (within x q x.next)
  loop_exits t m l turn g h x q ge le a exits wide next = record {
    wide = wide;
    next = next;
    broken = record { low = ge; high = le; leads = λ e i. exits.next e (enters_less c t.norm m m e g h (omega arith) a i) };
    continued = record { low = omega (arith, ge, le); high = omega arith; leads = λ e i. next e i };
    returned = returning_more c t.ret m l g h x.returned le a exits.returned;
  }

  pub while_sim : (node : ℕ) (l : Expr) (body : Block) → OfBlock body → OfStmt (While node l body)
  while_sim node l body of_body = record {
    wide = λ sc b m t lo hi has w. is_wide c b m (Go (first has.0 m)) lo has.3 has.6;
    sim = λ sc hs b m t lo hi e h x has le enters catches exits.
        let asked : ℕ = has.0 in
        let turn : ℕ = has.1 in
        let begin : ℕ = has.2 in
        let head_wide = is_wide c b m (Go (first asked m)) lo has.3 has.6 in
        let turn_wide = acts_wide c sc turn node false row.Turn [] m (first begin m) has.4 has.5 has.8 in
        let head : Point = point c b h m in
        let to_head = towards_point c b m m h head_wide (omega arith) le in
        let inner = graph.within c.program c.graphs c.f c.n t (record { to = b; keep = m }) (record { to = t.norm; keep = m }) in (
          head,
          point c turn h m,
          to_head e enters,
          at_point c b m h (λ g. part.Test c.p c.program.sites (annotation c) c.n hs node l g (point c turn h m) x.next)
              (λ i.
              let went = goes_on c b m (first asked m) lo has.3 (front c b) h has.6 le i in
              ((expr_sims c sc hs l).test node).sim asked m turn t.norm has.5 hi (front c b) h has.9 le (go_first c has.6.0.0 m (front c b) h went.around asked m le (omega arith) went.linked) catches (point c turn h m) x.next
              (towards_point c turn m m h turn_wide (omega arith) le) exits.next),
          at_point c turn m h (λ g. SeenBy c hs g × LeavesAll c lo1 hi1 back hs body g (within x head x.next))
              (λ i.
              let does = acted c sc turn node false row.Turn [] m (first begin m) has.4 has.5 (front c turn) h has.8 le i in
              let base : ℕ = has.8.0.0 in (
                seen c sc base m node false row.Turn [] (first begin m) (front c turn) h does hs m h (omega arith) (agree_self m h) catches,
                of_body.sim sc hs begin m inner has.3 has.4 (front c turn) h (within x head x.next) has.7 le
                    (go_first c base m (front c turn) h does.around begin m le (omega arith) (never_stops c sc hs base m node false row.Turn (first begin m) (front c turn) h does refl)) catches
                    (loop_exits t m m b h h x head le (omega arith) (agree_self m h) exits head_wide to_head),
              )),
        );
  }

  pub for_sim : (node : ℕ) (target : Target) (subject : Subject) (body : Block) → OfBlock body → OfStmt (For node target subject body)
  for_sim node target subject body of_body = record {
    wide = λ sc b m t lo hi has w. (subject_sims c sc [] subject node).wide b m has.0 has.9 hi has.15;
    sim = λ sc hs b m t lo hi e h x has le enters catches exits.
        let head : ℕ = has.0 in
        let asked : ℕ = has.1 in
        let advance : ℕ = has.2 in
        let begin : ℕ = has.3 in
        let turn : ℕ = has.4 in
        let step = graph.step_of (plain_subject subject) in
        let head_wide = is_wide c head (m + 2) (Go (first asked (m + 2))) lo has.5 has.10 in
        let advance_wide = acts_wide c sc advance node false (row.Advance step) (m ∷ (m + 1) ∷ []) (m + 2) (first_and head (m + 1) (m + 2)) has.5 has.6 has.11 in
        let inner = graph.within c.program c.graphs c.f c.n t (record { to = advance; keep = m + 2 }) (record { to = t.norm; keep = m }) in
        let begin_wide = of_body.wide sc begin (m + 2) inner has.6 has.7 has.12 advance_wide in
        let g : ℕ → Element = Pair c sc hs m h head in
        let agree : Agree m g h = pair_agree c sc hs m h head in
        let le2 : c.n ≤ m + 2 = omega (arith, le) in
        let next : Point = point c advance g (m + 2) in
        let pair_caught = caught_pair c sc hs m h head catches in (
          in_at c head m,
          in_at c head (m + 1),
          point c head h m,
          point c begin g (m + 2),
          next,
          (subject_sims c sc hs subject node).sim b m head has.9 hi e h has.15 le head_wide enters catches (in_at c head m) (in_at c head (m + 1)) (point c head h m) (walked_point c sc hs head m h head_wide le),
          turns_sim c sc hs node step m head asked advance begin turn t.norm lo has.5 has.5 has.6 has.8 has.9 has.7 has.8 (marks.HasBind c.program c.graphs c.f c.n sc target []) (part.Binds c.p c.program.sites (annotation c) c.n hs target)
              (take_of c sc hs target (bind_sims c sc hs target)) has.10 has.11 has.14 has.13 le begin_wide h catches x.next exits.next,
          at_point c begin (m + 2) g (λ i. LeavesAll c lo1 hi1 back hs body i (within x next x.next))
              (λ i. of_body.sim sc hs begin (m + 2) inner has.6 has.7 (front c begin) g (within x next x.next) has.12 le2 i pair_caught
              (loop_exits t m (m + 2) advance g h x next le (omega arith) agree exits advance_wide (towards_point c advance (m + 2) (m + 2) g advance_wide (omega arith) le2))),
        );
  }

  -- ---- blocks

  pub done_sim : OfBlock done
  done_sim = record {
    wide = λ sc b m t lo hi has w. subst (λ q. Wide c q m) (sym has.0) w;
    sim = λ sc hs b m t lo hi e h x has le enters catches exits. exits.next e (subst (λ q. Enters c q m e h) has.0 enters);
  }

  pub line_sim : (s : Stmt) (rest : Block) → OfStmt s → OfBlock rest → OfBlock (line s rest)
  line_sim s rest of_s of_rest = record {
    wide = λ sc b m t lo hi has w.
        mark_wide c sc (node_of s) b m has.0 has.5 hi has.9
        (of_s.wide sc has.0 m (onto t has.1) has.4 has.5 has.8 (mark_wide c sc (node_of s) has.1 m has.2 has.3 has.4 has.7 (of_rest.wide sc has.2 m t lo has.3 has.6 w)));
    sim = λ sc hs b m t lo hi e h x has le enters catches exits.
        let begin : ℕ = has.0 in
        let after : ℕ = has.1 in
        let next : ℕ = has.2 in
        let next_wide = of_rest.wide sc next m t lo has.3 has.6 exits.wide in
        let after_wide = mark_wide c sc (node_of s) after m next has.3 has.4 has.7 next_wide in
        let first_mark = mark_sim c sc hs (node_of s) b m begin has.5 hi e h has.9 le enters catches in
        let behind : Point = point c after h m in (
          behind,
          first_mark.seen_by,
          of_s.sim sc hs begin m (onto t after) has.4 has.5 e h (record x { next = behind }) has.8 le first_mark.enters catches
              (exits_onto c t m m after h h x behind (omega arith) (agree_self m h) exits after_wide (towards_point c after m m h after_wide (omega arith) le)),
          at_point c after m h (λ g. SeenBy c hs g × LeavesAll c lo1 hi1 back hs rest g x)
              (λ i.
              let second = mark_sim c sc hs (node_of s) after m next has.3 has.4 (front c after) h has.7 le i catches in
              (second.seen_by, of_rest.sim sc hs next m t lo has.3 (front c after) h x has.6 le second.enters catches exits)),
        );
  }

  -- ---- handlers

  pub record Handled (sc : Scope) (hs : List Handler) (clauses : Clauses) (m : ℕ) (h : ℕ → Element) (x : Exits) (hands : List Hand) (default : Aim) : Type 0 where
    pub all : List Handler
    pub handles : leaves.Handles c.p c.program.sites (annotation c) c.f c.n hs clauses all x
    pub low : Low c m hands
    pub low_default : default.keep ≤ m
    pub seen_by : (e : Environment) (g : ℕ → Element) → Agree m g h → Thrown c hands default e g → SeenBy c all e

  pub record ClausesSim (clauses : Clauses) : Type 0 where
    pub sim : (sc : Scope) (hs : List Handler) (m : ℕ) (t : Ways) (hands : List Hand) (default : Aim) (lo hi : ℕ) (h : ℕ → Element) (x : Exits)
        → marks.HasClauses c.program c.graphs c.f c.n sc clauses m t hands default lo hi → c.n ≤ m → Catches c sc hs m h → ExitsFor c t m h x → Handled sc hs clauses m h x hands default

  pub no_clauses_sim : ClausesSim no_clauses
  no_clauses_sim = record {
    sim = λ sc hs m t hands default lo hi h x has le catches exits. record {
      all = hs;
      handles = refl;
      low = subst (λ l. Low c m l) (sym has.0) catches.hands;
      low_default = subst (λ (d : Aim). d.keep ≤ m) (sym has.1) catches.default;
      seen_by = λ e g a thrown. catches.seen e g a (subst (λ l. Thrown c l sc.default e g) has.0 (subst (λ d. Thrown c hands d e g) has.1 thrown));
    };
  }

  pub bare_sim : (local : Option ℕ) (body : Block) (rest : Clauses) → OfBlock body → ClausesSim (clause None local body rest)
  bare_sim local body rest of_body = record {
    sim = λ sc hs m t hands default lo hi h x has le catches exits.
        let begin : ℕ = has.0 in
        let drop : ℕ = has.1 in
        let wide = of_body.wide sc begin m t lo has.2 has.6 exits.wide in
        let q : Point = point c begin h m in
        record {
          all = record { point = q; bound = None } ∷ [];
          handles = (q, refl, at_point c begin m h (λ g. LeavesAll c lo1 hi1 back hs body g x) (λ i. of_body.sim sc hs begin m t lo has.2 (front c begin) h x has.6 le i catches exits));
          low = subst (λ l. Low c m l) (sym has.4) tt;
          low_default = subst (λ (d : Aim). d.keep ≤ m) (sym has.5) (omega arith);
          seen_by = λ e g a thrown.
              let there : Thrown c [] (record { to = drop; keep = m }) e g = subst (λ l. Thrown c l (record { to = drop; keep = m }) e g) has.4 (subst (λ d. Thrown c hands d e g) has.5 thrown) in
              let g1 : ℕ → Element = elements_with g m (Inst 0 false) in
              let went = goes_on c drop (m + 1) (first begin m) has.2 hi e g1 has.7 (omega (arith, le)) (there le) in (
                towards_point c begin m m h wide (omega arith) le e
                    (enters_less c begin m m e g1 h (omega arith) (agree_on m m g1 g h (omega arith) (agree_before m m g (Inst 0 false) (omega arith)) a)
                    (go_first c has.7.0.0 (m + 1) e g1 went.around begin m le (omega arith) went.linked)),
                tt,
              );
        };
  }

  -- one for each class
  low_hands : (local : Option ℕ) (begin m : ℕ) (classes : List ℕ) (others : List Hand) → Low c m others → Low c m (hands_of local (record { to = begin; keep = m }) classes others)
  low_hands local begin m [] others low = low
  low_hands local begin m (d ∷ classes) others low = (omega arith, low_hands local begin m classes others low)

  seen_hands : (local : Option ℕ) (begin m : ℕ) (classes : List ℕ) (others : List Hand) (all : List Handler) (default : Aim) (e : Environment) (g : ℕ → Element) (q : Point) → c.n ≤ m → LocalIn c.n local
      → ((i : Environment) → Enters c begin m i g → LeadsTo c i q) → Thrown c (hands_of local (record { to = begin; keep = m }) classes others) default e g
      → (Thrown c others default e g → SeenBy c all e) → SeenBy c (handlers q local classes ++ all) e
  seen_hands local begin m [] others all default e g q le inside leads thrown rest = rest thrown
  seen_hands local begin m (d ∷ classes) others all default e g q le inside leads thrown rest =
      (leads (caught (with_class local d) e) (thrown.0 le inside), seen_hands local begin m classes others all default e g q le inside leads thrown.1 rest)

  pub clause_sim : (classes : List ℕ) (local : Option ℕ) (body : Block) (rest : Clauses) → OfBlock body → ClausesSim rest → ClausesSim (clause (Some classes) local body rest)
  clause_sim classes local body rest of_body of_rest = record {
    sim = λ sc hs m t hands default lo hi h x has le catches exits.
        let begin : ℕ = has.0 in
        let others = has.2 in
        let wide = of_body.wide sc begin m t lo has.1 has.5 exits.wide in
        let q : Point = point c begin h m in
        let r = of_rest.sim sc hs m t others default has.1 hi h x has.6 le catches exits in
        record {
          all = handlers q local classes ++ r.all;
          handles = (q, r.all, refl, at_point c begin m h (λ g. LeavesAll c lo1 hi1 back hs body g x) (λ i. of_body.sim sc hs begin m t lo has.1 (front c begin) h x has.5 le i catches exits), r.handles);
          low = subst (λ l. Low c m l) (sym has.4) (low_hands local begin m classes others r.low);
          low_default = r.low_default;
          seen_by = λ e g a thrown.
              seen_hands local begin m classes others r.all default e g q le has.3 (λ env i. towards_point c begin m m h wide (omega arith) le env (enters_less c begin m m env g h (omega arith) a i))
              (subst (λ l. Thrown c l default e g) has.4 thrown) (r.seen_by e g a);
        };
  }

  always_tried : {A : Type 0} → true ≡ false → A
  always_tried e = cc

  pub try_sim : (node : ℕ) (body : Block) (clauses : Clauses) (other : Block) → OfBlock body → ClausesSim clauses → OfBlock other → OfStmt (Try node body clauses other)
  try_sim node body clauses other of_body of_clauses of_other = record {
    wide = λ sc b m t lo hi has w.
        of_body.wide (record { hands = has.3; default = has.4; covers = covers_within c.program.classes (plain_clauses clauses) sc.covers; tried = true }) b m (onto t has.0) has.2 hi has.7 (of_other.wide sc has.0 m t lo has.1 has.5 w);
    sim = λ sc hs b m t lo hi e h x has le enters catches exits.
        let after : ℕ = has.0 in
        let hands = has.3 in
        let default = has.4 in
        let inner : Scope = record { hands = hands; default = default; covers = covers_within c.program.classes (plain_clauses clauses) sc.covers; tried = true } in
        let wide = of_other.wide sc after m t lo has.1 has.5 exits.wide in
        let r = of_clauses.sim sc hs m t hands default has.1 has.2 h x has.6 le catches exits in
        let q : Point = point c after h m in (
          r.all,
          q,
          r.handles,
          of_body.sim inner r.all b m (onto t after) has.2 hi e h (record x { next = q }) has.7 le enters (record { hands = r.low; default = r.low_default; seen = r.seen_by; quiet = λ t. always_tried t })
              (exits_onto c t m m after h h x q (omega arith) (agree_self m h) exits wide (towards_point c after m m h wide (omega arith) le)),
          at_point c after m h (λ g. LeavesAll c lo1 hi1 back hs other g x) (λ i. of_other.sim sc hs after m t lo has.1 (front c after) h x has.5 le i catches exits),
        );
  }
