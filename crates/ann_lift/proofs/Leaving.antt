-- Where statements go on to.
use Rattle.std.proofs.Common.{◌≡◌, ℕ, ◌+◌, inl, inr, true, false, List, [], ◌∷◌, ◌++◌, map, length, Option, refl, sym, ap, ◌∙◌, subst, arith, append_assoc, append-nil}
use Rattle.std.specs.Prelude.{if◌then◌else◌}
use Rattle.std.proofs.lemmas.Bool.{ne_eqb, false≢true}
use Rattle.rpy_tree.specs.Value.{Object}
use Rattle.rpy_meaning.specs.declared.row.RowOp.TheVariants as row
use Rattle.rpy_meaning.specs.Tree as meaning
use Rattle.flow_graph.specs.declared.graph.Graphs.{Graphs}
use Rattle.flow_stands.specs.Places.{Aim, Scope, Ways, onto, Go, Does, first, first_and, on_to}
use Rattle.flow_stands.specs.Stands.{return_block}
use Rattle.flow_trees.specs.Marks as marks
use Rattle.ann_lattice.specs.Shape.{Shape, Nothing, NoneOnly, Truth, Num, Str, Tup, Lst, Dct, Inst, Fun, Clash}
use Rattle.ann_lattice.specs.Order.{Below, clash}
use Rattle.ann_lattice.specs.Join.{is_clash}
use Rattle.ann_lattice.specs.Laws.{IsTree, IsFormed}
use Rattle.ann_lattice.specs.Kind.{some_nothing}
use Rattle.ann_lattice.specs.Assign.{at, Under as BelowAll}
use Rattle.ann_rules.specs.Program.{Whole}
use Rattle.ann_rules.specs.Rules.{asked}
use Rattle.ann_tree.specs.Annotation.{Annotation, Environment, Point, Never, With, Goal, Away, Towards, LeavesFor, Exits, Handler}
use Rattle.ann_tree.specs.Gives as part
use Rattle.ann_lift.specs.Spots.{Spots, as_class, first_unbound, Goes}
use Rattle.ann_lift.proofs.Lists.{one_more, push}
use Rattle.ann_lift.proofs.Lifted.{under, so, one}
use Rattle.ann_lift.proofs.States.{held_at, bound, spot, at_in, loose_held, Lower, self, stands}
use Rattle.ann_lift.proofs.Ways.{led, led_and, goes_keeping, goes_keeping_and}
use Rattle.ann_lift.proofs.Acting.{unmarked, go}
use Rattle.ann_lift.proofs.Exprs.{On}
use Rattle.ann_lift.proofs.Forms.{Lf, I, T, A}
use Rattle.ann_lift.proofs.Idle as idle

module _ (p : Whole) (sites : List (Option Object)) (a : Annotation) (f n : ℕ) (gs : Graphs) (classes : IsTree p.tables.classes) (meant : meaning.Program) where
  abbrev S : ℕ → ℕ → (Spots → Type 0) → (Spots → Type 0) → Type 0
  S lo hi C E = Lf p sites a f n gs classes meant lo hi C E

  abbrev E : Spots → ℕ → Environment → List Shape → Type 0
  E k b e held = I p sites a f n gs classes meant k b e held

  abbrev Q : Spots → ℕ → Point → List Shape → Type 0
  Q k b r held = T p sites a f n gs classes meant k b r held

  abbrev R : Scope → List Handler → List Shape → Spots → Type 0
  R sc hs held k = A p sites a f n gs classes meant sc hs held k

  -- what the function returns
  abbrev pub result : Shape
  result = at a.parts (p.places.result f)

  -- ---- ways out

  -- with the first variables, which are among those that are held
  abbrev pub Out : Spots → Aim → Goal → List Shape → Type 0
  Out k aim Away held = ⊥
  Out k aim (Towards r) held = (tried rest : List Shape) × (held ≡ tried ++ rest) × (aim.keep ≡ n + length tried) × Q k aim.to r tried

  -- with the returned value
  abbrev pub Back : Spots → Aim → Goal → List Shape → Type 0
  Back k aim Away held = (aim.to ≡ return_block) × (aim.keep ≡ 0)
  Back k aim (Towards r) held = (tried rest : List Shape) × (held ≡ tried ++ rest) × (aim.keep ≡ n + length tried) × Q k aim.to r (tried ++ result ∷ [])

  pub record Outs (k : Spots) (t : Ways) (x : Exits) (held : List Shape) : Type 0 where
    pub next : Q k t.norm x.next held
    pub broken : Out k t.brk x.broken held
    pub continued : Out k t.cont x.continued held
    pub returned : Back k t.ret x.returned held
    pub reached : (k return_block).reached ≡ true
    pub gives : (k return_block).element 0 ≡ result

  pub out_more : (k : Spots) (aim : Aim) (r : Goal) (held rest : List Shape) → Out k aim r held → Out k aim r (held ++ rest)
  out_more k aim Away held rest h = h
  out_more k aim (Towards r) held rest h = (h.0, h.1 ++ rest, ap (λ l. l ++ rest) h.2 ∙ append_assoc h.0 h.1 rest, h.3, h.4)

  pub back_more : (k : Spots) (aim : Aim) (r : Goal) (held rest : List Shape) → Back k aim r held → Back k aim r (held ++ rest)
  back_more k aim Away held rest h = h
  back_more k aim (Towards r) held rest h = (h.0, h.1 ++ rest, ap (λ l. l ++ rest) h.2 ∙ append_assoc h.0 h.1 rest, h.3, h.4)

  -- another way on, and more that is held
  pub outs_onto : (k : Spots) (t : Ways) (x : Exits) (held rest : List Shape) (b : ℕ) (r : Point) → Outs k t x held → Q k b r (held ++ rest) → Outs k (onto t b) (record x { next = r }) (held ++ rest)
  outs_onto k t x held rest b r o next = record {
    next = next;
    broken = out_more k t.brk x.broken held rest o.broken;
    continued = out_more k t.cont x.continued held rest o.continued;
    returned = back_more k t.ret x.returned held rest o.returned;
    reached = o.reached;
    gives = o.gives;
  }

  pub outs_next : (k : Spots) (t : Ways) (x : Exits) (held : List Shape) (b : ℕ) (r : Point) → Outs k t x held → Q k b r held → Outs k (onto t b) (record x { next = r }) held
  outs_next k t x held b r o next = record { next = next; broken = o.broken; continued = o.continued; returned = o.returned; reached = o.reached; gives = o.gives }

  -- ---- blocks between statements

  -- a block that goes on with the first variables
  pub drop_to : {lo hi : ℕ} {C : Spots → Type 0} (b w q m : ℕ) → marks.Is meant gs f n b w (Go (first q m)) lo hi → (held rest : List Shape) → m ≡ n + length held → (r : Point) → ((k : Spots) → C k → Q k q r held) → S lo hi C (λ k. Q k b r (held ++ rest))
  drop_to b w q m h held rest count Never to = so p a f gs (λ k c i. tt) (under p a f gs (λ k c. tt) (idle.block p sites a f n gs classes meant b w (Go (first q m)) h))
  drop_to b w q m h held rest count (With g) to = go p sites a f n gs classes meant b w (first q m) h g (held ++ rest) (λ k c. goes_keeping p a f n classes k q m g held rest (held ++ rest) refl count (to k c))

  -- where a break goes
  pub out_to : {lo hi : ℕ} {C : Spots → Type 0} (b m : ℕ) (aim : Aim) → marks.Is meant gs f n b m (Go (on_to aim)) lo hi → (held : List Shape) (e : Environment) (r : Goal) → LeavesFor p.tables.classes a.parts.same n e r → ((k : Spots) → C k → Out k aim r held) → S lo hi C (λ k. E k b e held)
  out_to b m aim h held e Away leaves to = go p sites a f n gs classes meant b m (on_to aim) h e held (λ k c. absurd (to k c))
  out_to b m aim h held e (Towards r) leaves to =
      go p sites a f n gs classes meant b m (on_to aim) h e held (λ k c.
      let o = to k c in
      goes_keeping p a f n classes k aim.to aim.keep e o.0 o.1 held o.2 o.3 (led p a f n classes k aim.to r e o.0 leaves o.4))

  -- ---- values that are returned

  clash_up : (x y : Shape) → Below p.tables.classes a.parts.same x y → is_clash y ≡ false → is_clash x ≡ false
  clash_up Nothing y h free = refl
  clash_up NoneOnly y h free = refl
  clash_up (Truth b) y h free = refl
  clash_up (Num b) y h free = refl
  clash_up (Str w) y h free = refl
  clash_up (Tup xs) y h free = refl
  clash_up (Lst s b) y h free = refl
  clash_up (Dct s b) y h free = refl
  clash_up (Inst c b) y h free = refl
  clash_up (Fun fs b) y h free = refl
  clash_up (Clash o q) y h free = absurd (above h free)
    where
      above : {z : Shape} → Below p.tables.classes a.parts.same (Clash o q) z → is_clash z ≡ false → ⊥
      above (clash _ _ _ _ _) free = false≢true (sym free)

  copy_is : (node : ℕ) (x : Shape) → is_clash x ≡ false → part.Operates p sites a n row.Copy node (x ∷ []) x
  copy_is node Nothing free = (refl, (λ h. absurd (false≢true (sym h))), λ f. f.0)
  copy_is node NoneOnly free = (refl, (λ h. (((self p a f n classes NoneOnly).0, tt), tt)), λ f. f.0)
  copy_is node (Truth b) free = (refl, (λ h. (((self p a f n classes (Truth b)).0, tt), tt)), λ f. f.0)
  copy_is node (Num b) free = (refl, (λ h. (((self p a f n classes (Num b)).0, tt), tt)), λ f. f.0)
  copy_is node (Str w) free = (refl, (λ h. (((self p a f n classes (Str w)).0, tt), tt)), λ f. f.0)
  copy_is node (Tup xs) free = (refl, (λ h. (((self p a f n classes (Tup xs)).0, tt), tt)), λ f. f.0)
  copy_is node (Lst s b) free = (refl, (λ h. (((self p a f n classes (Lst s b)).0, tt), tt)), λ f. f.0)
  copy_is node (Dct s b) free = (refl, (λ h. (((self p a f n classes (Dct s b)).0, tt), tt)), λ f. f.0)
  copy_is node (Inst c b) free = (refl, (λ h. (((self p a f n classes (Inst c b)).0, tt), tt)), λ f. f.0)
  copy_is node (Fun fs b) free = (refl, (λ h. (((self p a f n classes (Fun fs b)).0, tt), tt)), λ f. f.0)
  copy_is node (Clash o q) free = absurd (false≢true (sym free))

  -- a jump with the value goes to where it is taken
  pub returns_on : (k : Spots) (e : Environment) (held rest : List Shape) (x : Shape) (m : ℕ) (t : Ways) (ret : Goal) → m ≡ n + length held → Lower p a f n classes x result → LeavesFor p.tables.classes a.parts.same n e ret → Back k t.ret ret held → (k return_block).reached ≡ true → (k return_block).element 0 ≡ result
      → On p sites a f n gs classes meant k e ((held ++ x ∷ []) ++ rest) (first_and t.ret.to t.ret.keep m)
  returns_on k e held rest x m t Away count fits leaves back reached gives =
      let there = at_in n e held x rest ((held ++ x ∷ []) ++ rest) m (push held x rest) count in
      let s = spot n e ((held ++ x ∷ []) ++ rest) bound in
      subst (λ i. Goes p a f k s (first_and i t.ret.keep m)) (sym back.0) (subst (λ i. Goes p a f k s (first_and return_block i m)) (sym back.1)
      (reached, ((subst (λ y. Lower p a f n classes y ((k return_block).element 0)) (sym there) (subst (λ y. Lower p a f n classes x y) (sym gives) fits), λ h. absurd (false≢true (sym (loose_held n e bound m (omega (arith, count))) ∙ h))), tt)))
  returns_on k e held rest x m t (Towards r) count fits leaves back reached gives =
      let all = (held ++ x ∷ []) ++ rest in
      let split : all ≡ back.0 ++ (back.1 ++ x ∷ rest) = push held x rest ∙ (ap (λ l. l ++ x ∷ rest) back.2 ∙ append_assoc back.0 back.1 (x ∷ rest)) in
      goes_keeping_and p a f n classes k t.ret.to t.ret.keep m e back.0 (back.1 ++ x ∷ rest) all x split back.3 (at_in n e held x rest all m (push held x rest) count) (omega (arith, count)) (led_and p a f n classes k t.ret.to r e back.0 x result fits leaves back.4)

  pub gives_back : {lo hi : ℕ} {C : Spots → Type 0} (sc : Scope) (node b m : ℕ) (t : Ways) → marks.GivesBack meant gs f n sc node b m t.ret lo hi → (held : List Shape) → m ≡ n + length held → (e : Environment) (x : Shape) (exits : Exits) → is_clash result ≡ false → Lower p a f n classes x result
      → LeavesFor p.tables.classes a.parts.same n e exits.returned → ((k : Spots) → C k → Outs k t exits held) → S lo hi C (λ k. E k b e (held ++ x ∷ []))
  gives_back sc node b m t (inl h) held count e x exits free fits leaves outs =
      go p sites a f n gs classes meant b (m + 1) (first_and t.ret.to t.ret.keep m) h.1 e (held ++ x ∷ []) (λ k c.
      let o = outs k c in
      subst (λ l. On p sites a f n gs classes meant k e l (first_and t.ret.to t.ret.keep m)) (append-nil (held ++ x ∷ [])) (returns_on k e held [] x m t exits.returned count fits leaves o.returned o.reached o.gives))
  gives_back sc node b m t (inr h) held count e x exits free fits leaves outs =
      let all = (held ++ x ∷ []) ++ x ∷ [] in
      let s = spot n e all bound in
      let clear = clash_up x result fits.0 free in
      let wide : m + 1 ≡ n + length (held ++ x ∷ []) = omega (arith, count, one_more held x) in
      let there : held_at n e all m ≡ x = at_in n e held x (x ∷ []) all m (push held x (x ∷ [])) count in
      let last : held_at n e all (m + 1) ≡ x = at_in n e (held ++ x ∷ []) x [] all (m + 1) refl wide in
      let does = copy_is node x clear in
      let loose : first_unbound s (m ∷ []) ≡ false = loose_held n e bound m (omega (arith, count)) in
      let thrown : (as_class s (m + 1) 0).element m ≡ x = ap (λ t. if t then Inst 0 false else held_at n e all m) (ne_eqb m (m + 1) (λ i. omega (arith, i))) ∙ there in
      let thrown_bound : (as_class s (m + 1) 0).unbound m ≡ false = ap (λ t. if t then false else s.unbound m) (ne_eqb m (m + 1) (λ i. omega (arith, i))) ∙ loose in
      so p a f gs (λ k c i. stands p a f n classes k b e (held ++ x ∷ []) (x ∷ []) bound i)
      (one p a f gs b h.0.0 (m + 1) node false (Does row.Copy (m ∷ []) sc.covers [] (first_and return_block 0 m) (first_and t.ret.to t.ret.keep m)) h.1 h.0.1 s (ap is_clash last ∙ clear, tt)
      (λ k c reached.
      let o = outs k c in (
        tt,
        (o.reached, ((subst (λ y. Lower p a f n classes y ((k return_block).element 0)) (sym thrown) (subst (λ y. Lower p a f n classes x y) (sym o.gives) fits), λ i. absurd (false≢true (sym thrown_bound ∙ i))), tt)),
        record {
          reads = λ i. absurd (false≢true (sym loose ∙ i));
          keeps = λ i. absurd (false≢true i);
          formed = λ formed. subst (λ y. IsFormed y) (there ∙ sym last) formed.0;
          marked = unmarked p sites a f n gs classes meant node false row.Copy (map s.element (m ∷ [])) refl refl;
          gives = λ some. subst (λ y. BelowAll p.tables.classes a.parts.same (asked p a.parts f row.Copy (y ∷ []) node) (held_at n e all (m + 1)) × Unit {0}) (sym there) (subst (λ y. BelowAll p.tables.classes a.parts.same (asked p a.parts f row.Copy (x ∷ []) node) y) (sym last) (does.1 (ap (λ y. some_nothing (y ∷ [])) (sym there) ∙ some)).0, tt);
        },
        λ i. returns_on k e held (x ∷ []) x m t exits.returned count fits leaves o.returned o.reached o.gives,
      )))
