-- What is written behind an exit that catches is cut into pieces.
use Rattle.std.proofs.Common.{◌≡◌, ◌⊎◌, inl, inr, ℕ, suc, ◌-◌, ◌==◌, ◌||◌, ◌&&◌, Bool, true, false, List, [], ◌∷◌, ◌++◌, length, map, Option, Some, None, refl, sym, ap, ◌∙◌, subst, arith, append_assoc}
use Rattle.std.specs.Prelude.{slice_get, not, if◌then◌else◌}
use Rattle.std.proofs.lemmas.Bool.Decides.{nat_tests}
use Rattle.std.proofs.lemmas.List.{append-nil}
use Rattle.csub_tree.specs.declared.tree.COperand.{COperand}
use Rattle.csub_tree.specs.declared.tree.COperand.TheVariants.{Var}
use Rattle.ll_code.specs.declared.program.LlOp.{LlOp}
use Rattle.ll_code.specs.declared.program.LlOp.TheVariants as op
use Rattle.ll_code.specs.declared.program.LlExit.{LlExit}
use Rattle.ll_code.specs.declared.program.LlExit.TheVariants as made
use Rattle.ll_code.specs.declared.program.LlLink.{LlLink}
use Rattle.ll_code.specs.declared.program.LlBlock.{LlBlock}
use Rattle.ll_code.specs.declared.program.LlGraph.{LlGraph}
use Rattle.ll_live.specs.Live.{among, variables_in, reads, set_by}
use Rattle.ll_live.proofs.Appended.{among_append}
use Rattle.rtyper_data.specs.declared.body.Body.{Body}
use Rattle.rtyper_data.specs.declared.found.Found.{Found}
use Rattle.rtyper_data.specs.Building.{block_with}
use Rattle.rtyper_program.specs.declared.cuts.Pieces.{Pieces}
use Rattle.rtyper_program.specs.declared.extra.Extra.{Extra}
use Rattle.block_laws.proofs.Passing.{equal}
use Rattle.rtyper_program.specs.Cuts.{Cut, any_raises, graph_raises, cut, cut_as, ends, may_raise, on_raise_to, passed_by, piece, pieces, pieces_from, pieces_of, tail, with_piece}
use Rattle.rtyper_program.specs.Live.{live, live_from, with_new, with_one, with_set}
use Rattle.throw_laws.specs.Pieces.{AllIn, AreQuiet, EndsQuietly, IsCut, Whole, Last, Piece, is_quiet}
use Rattle.catch_laws.specs.Handlers.{AreInGraph}
use Rattle.catch_laws.specs.Caught.{needed_by}
use Rattle.catch_laws.proofs.Handling.{added_there, before_added}
use Rattle.catch_laws.proofs.Reading.{left_in, here_in, own_variables, right_in}

-- ---- what is live

two : (b c : Bool) → (b || c) ≡ true → (b ≡ true) ⊎ (c ≡ true)
two true c h = inl refl
two false c h = inr h

-- v is among them where it was, or where it is new
one_from : (v u : ℕ) (set into : List ℕ) → among v (with_one u set into) ≡ true → (among v into ≡ true) ⊎ ((among v (u ∷ []) ≡ true) × (among u set ≡ false))
one_from v u set into h = on (among u set) (among u into) refl h
  where
    on : (b c : Bool) → among u set ≡ b → among v (if not b && not c then into ++ u ∷ [] else into) ≡ true → (among v into ≡ true) ⊎ ((among v (u ∷ []) ≡ true) × (among u set ≡ false))
    on true c e k = inl k
    on false true e k = inl k
    on false false e k = by (two (among v into) (among v (u ∷ [])) (sym (among_append v into (u ∷ [])) ∙ k))
      where
        by : (among v into ≡ true) ⊎ (among v (u ∷ []) ≡ true) → (among v into ≡ true) ⊎ ((among v (u ∷ []) ≡ true) × (among u set ≡ false))
        by (inl m) = inl m
        by (inr m) = inr (m, e)

same_one : (v u : ℕ) → among v (u ∷ []) ≡ true → u ≡ v
same_one v u h = on (u == v) refl h
  where
    on : (b : Bool) → (u == v) ≡ b → (b || false) ≡ true → u ≡ v
    on true e k = sym (equal u v e)
    on false e k = absurd (cc)

new_from : (v : ℕ) (vs set into : List ℕ) → among v (with_new vs set into) ≡ true → (among v into ≡ true) ⊎ ((among v vs ≡ true) × (among v set ≡ false))
new_from v [] set into h = inl h
new_from v (u ∷ vs) set into h = by (new_from v vs set (with_one u set into) h)
  where
    one : (among v into ≡ true) ⊎ ((among v (u ∷ []) ≡ true) × (among u set ≡ false)) → (among v into ≡ true) ⊎ ((among v (u ∷ vs) ≡ true) × (among v set ≡ false))
    one (inl k) = inl k
    one (inr k) = inr (left_in v (u ∷ []) vs k.0, ap (λ n. among n set) (sym (same_one v u k.0)) ∙ k.1)

    by : (among v (with_one u set into) ≡ true) ⊎ ((among v vs ≡ true) × (among v set ≡ false)) → (among v into ≡ true) ⊎ ((among v (u ∷ vs) ≡ true) × (among v set ≡ false))
    by (inl k) = one (one_from v u set into k)
    by (inr k) = inr (right_in v (u ∷ []) vs k.0, k.1)

one_keeps : (v u : ℕ) (set into : List ℕ) → among v into ≡ true → among v (with_one u set into) ≡ true
one_keeps v u set into h = on (not (among u set) && not (among u into))
  where
    on : (b : Bool) → among v (if b then into ++ u ∷ [] else into) ≡ true
    on true = left_in v into (u ∷ []) h
    on false = h

new_keeps : (v : ℕ) (vs set into : List ℕ) → among v into ≡ true → among v (with_new vs set into) ≡ true
new_keeps v [] set into h = h
new_keeps v (u ∷ vs) set into h = new_keeps v vs set (with_one u set into) (one_keeps v u set into h)

one_takes : (v : ℕ) (set into : List ℕ) → among v set ≡ false → among v (with_one v set into) ≡ true
one_takes v set into h = on (among v set) (among v into) h refl
  where
    on : (b c : Bool) → b ≡ false → among v into ≡ c → among v (if not b && not c then into ++ v ∷ [] else into) ≡ true
    on true c e k = absurd (cc)
    on false true e k = k
    on false false e k = right_in v into (v ∷ []) (here_in v [])

new_takes : (v : ℕ) (vs set into : List ℕ) → among v vs ≡ true → among v set ≡ false → among v (with_new vs set into) ≡ true
new_takes v [] set into h k = absurd (cc)
new_takes v (u ∷ vs) set into h k = on (λ m. new_takes v vs set (with_one u set into) m k) (u == v) refl h
  where
    on : (among v vs ≡ true → among v (with_new vs set (with_one u set into)) ≡ true) → (b : Bool) → (u == v) ≡ b → (b || among v vs) ≡ true → among v (with_new vs set (with_one u set into)) ≡ true
    on go true e m = new_keeps v vs set (with_one u set into) (let q : v ≡ u = equal u v e in subst (λ (n : ℕ). among v (with_one n set into) ≡ true) q (one_takes v set into k))
    on go false e m = go m

-- what is met stays
live_keeps : (v : ℕ) (ops : List LlOp) (further : List COperand) (set met : List ℕ) → among v met ≡ true → among v (live_from ops further set met) ≡ true
live_keeps v [] further set met h = new_keeps v (variables_in further) set met h
live_keeps v (o ∷ ops) further set met h = live_keeps v ops further (with_set (set_by o) set) (with_new (reads o) set met) (new_keeps v (reads o) set met h)

-- with fewer that are set, and more that are met
set_less : (v : ℕ) (a : Option ℕ) (s t : List ℕ) → (among v t ≡ true → among v s ≡ true) → among v (with_set a t) ≡ true → among v (with_set a s) ≡ true
set_less v None s t h k = h k
set_less v (Some a) s t h k = on (two (among v t) (among v (a ∷ [])) (sym (among_append v t (a ∷ [])) ∙ k))
  where
    on : (among v t ≡ true) ⊎ (among v (a ∷ []) ≡ true) → among v (s ++ a ∷ []) ≡ true
    on (inl m) = left_in v s (a ∷ []) (h m)
    on (inr m) = right_in v s (a ∷ []) m

not_set : (v : ℕ) (s t : List ℕ) → (among v t ≡ true → among v s ≡ true) → among v s ≡ false → among v t ≡ false
not_set v s t h k = on (among v t) refl
  where
    on : (b : Bool) → among v t ≡ b → b ≡ false
    on true e = absurd (let q : true ≡ false = sym (h e) ∙ k in cc)
    on false e = refl

new_more : (v : ℕ) (vs s t m n : List ℕ) → (among v t ≡ true → among v s ≡ true) → (among v m ≡ true → among v n ≡ true) → among v (with_new vs s m) ≡ true → among v (with_new vs t n) ≡ true
new_more v vs s t m n h k q = on (new_from v vs s m q)
  where
    on : (among v m ≡ true) ⊎ ((among v vs ≡ true) × (among v s ≡ false)) → among v (with_new vs t n) ≡ true
    on (inl z) = new_keeps v vs t n (k z)
    on (inr z) = new_takes v vs t n z.0 (not_set v s t h z.1)

live_more : (v : ℕ) (ops : List LlOp) (further : List COperand) (s t m n : List ℕ) → (among v t ≡ true → among v s ≡ true) → (among v m ≡ true → among v n ≡ true) → among v (live_from ops further s m) ≡ true → among v (live_from ops further t n) ≡ true
live_more v [] further s t m n h k q = new_more v (variables_in further) s t m n h k q
live_more v (o ∷ ops) further s t m n h k q = live_more v ops further (with_set (set_by o) s) (with_set (set_by o) t) (with_new (reads o) s m) (with_new (reads o) t n) (λ z. set_less v (set_by o) s t h z) (λ z. new_more v (reads o) s t m n h k z) q

-- what operations before others need, where what is passed on between them is needed by those
live_before : (v : ℕ) (ops rest : List LlOp) (f2 further : List COperand) (set met met2 first : List ℕ) → AllIn (variables_in f2) (live_from rest further [] first) → (among v met ≡ true → among v met2 ≡ true) → (among v first ≡ true → among v met2 ≡ true)
    → among v (live_from ops f2 set met) ≡ true → among v (live_from (ops ++ rest) further set met2) ≡ true
live_before v [] rest f2 further set met met2 first passed h k q = on (new_from v (variables_in f2) set met q)
  where
    on : (among v met ≡ true) ⊎ ((among v (variables_in f2) ≡ true) × (among v set ≡ false)) → among v (live_from rest further set met2) ≡ true
    on (inl z) = live_keeps v rest further set met2 (h z)
    on (inr z) = live_more v rest further [] set first met2 (λ y. absurd (let e : true ≡ false = sym y ∙ z.1 in cc)) k (passed v z.0)
live_before v (o ∷ ops) rest f2 further set met met2 first passed h k q =
    live_before v ops rest f2 further (with_set (set_by o) set) (with_new (reads o) set met) (with_new (reads o) set met2) first passed (λ z. new_more v (reads o) set set met met2 (λ y. y) h z) (λ z. new_keeps v (reads o) set met2 (k z)) q

-- ---- pieces

module _ (found : Found) (v : ℕ) (by last : LlLink) (graph : LlGraph) where
  abbrev pub quiet : ℕ → Bool
  quiet g = not (graph_raises found g)

  abbrev pub needed : List LlOp → List ℕ
  needed = needed_by by v last.args

  quiet_is : (o : LlOp) → is_quiet quiet o ≡ not (may_raise found o)
  quiet_is (op.Call into g xs) = refl
  quiet_is (op.CallFn into result params b xs) = refl
  quiet_is (op.Raise a) = refl
  quiet_is (op.Set a x) = refl
  quiet_is (op.Unary a o x) = refl
  quiet_is (op.Binary a o x y) = refl
  quiet_is (op.GetField a n b k) = refl
  quiet_is (op.SetField n b k x) = refl
  quiet_is (op.GetItem a n b i) = refl
  quiet_is (op.SetItem n b i x) = refl
  quiet_is (op.New a m n) = refl
  quiet_is (op.NewArray a m n x) = refl
  quiet_is (op.Free a) = refl
  quiet_is (op.Step x) = refl
  quiet_is (op.ExcType a n) = refl
  quiet_is (op.ExcValue a n) = refl
  quiet_is (op.ExcSet a b) = refl
  quiet_is op.ExcClear = refl
  quiet_is (op.Argc a) = refl
  quiet_is (op.ArgLen a x) = refl
  quiet_is (op.Arg a x y) = refl
  quiet_is (op.Put x) = refl

  -- where none may raise, all are quiet
  pub none_raise : (ops : List LlOp) → any_raises found 0 ops ≡ false → AreQuiet quiet ops
  none_raise [] h = tt
  none_raise (o ∷ ops) h = (quiet_is o ∙ ap not (first (may_raise found o) (any_raises found 0 ops) h), none_raise ops (second (may_raise found o) (any_raises found 0 ops) h))
    where
      first : (b c : Bool) → (b || c) ≡ false → b ≡ false
      first true c k = absurd (cc)
      first false c k = refl

      second : (b c : Bool) → (b || c) ≡ false → c ≡ false
      second true c k = absurd (cc)
      second false c k = k

  pub raises_behind : (front ops : List LlOp) → any_raises found (length front) (front ++ ops) ≡ any_raises found 0 ops
  raises_behind [] ops = refl
  raises_behind (o ∷ front) ops =
      ap (λ n. ends found (suc (length front)) o || any_raises found n (front ++ ops)) (let z : suc (length front) - 1 ≡ length front = omega arith in z)
      ∙ ap (λ b. (b && may_raise found o) || any_raises found (length front) (front ++ ops)) (let z : (suc (length front) == 0) ≡ false = grind (arith, nat_tests) in z)
      ∙ raises_behind front ops

  -- the pieces of operations, and what is left behind the last
  data Split : List LlOp → List (List LlOp) → List LlOp → Type 0 where
    Rest : (ops : List LlOp) → AreQuiet quiet ops → Split ops [] ops
    Next : (o : LlOp) (ops rest : List LlOp) (more : List (List LlOp)) (left : List LlOp) → EndsQuietly quiet (o ∷ ops) → Split rest more left → Split (o ∷ (ops ++ rest)) ((o ∷ ops) ∷ more) left

  -- behind what was written before
  abbrev before_pieces : List (List LlOp) → List LlOp → List (List LlOp) → List LlOp → Pieces
  before_pieces done front [] left = record { ended = done; left = front ++ left }
  before_pieces done front (ops ∷ more) left = record { ended = done ++ (front ++ ops) ∷ more; left = left }

  record SplitSo (ops : List LlOp) (done : List (List LlOp)) (front : List LlOp) (result : Pieces) : Type 0 where
    more : List (List LlOp)
    left : List LlOp
    split : Split ops more left
    is : result ≡ before_pieces done front more left

  one_piece : (o : LlOp) (ops : List LlOp) (done : List (List LlOp)) (front : List LlOp) (result : Pieces) → SplitSo ops (done ++ (front ++ o ∷ []) ∷ []) [] result → SplitSo (o ∷ ops) done front result
  one_piece o ops done front result it = record { more = (o ∷ []) ∷ it.more; left = it.left; split = Next o [] ops it.more it.left tt it.split; is = it.is ∙ same it.more }
    where
      same : (more : List (List LlOp)) → before_pieces (done ++ (front ++ o ∷ []) ∷ []) [] more it.left ≡ record { ended = done ++ (front ++ o ∷ []) ∷ more; left = it.left }
      same [] = refl
      same (ops ∷ more) = ap (λ es. record { ended = es; left = it.left }) (append_assoc done ((front ++ o ∷ []) ∷ []) (ops ∷ more))

  one_more : (o : LlOp) (ops : List LlOp) (done : List (List LlOp)) (front : List LlOp) (result : Pieces) → is_quiet quiet o ≡ true → SplitSo ops done (front ++ o ∷ []) result → SplitSo (o ∷ ops) done front result
  one_more o ops done front result calm it = on ops it.more it.left it.split it.is
    where
      on : (all : List LlOp) (more : List (List LlOp)) (left : List LlOp) → Split all more left → result ≡ before_pieces done (front ++ o ∷ []) more left → SplitSo (o ∷ all) done front result
      on _ _ _ (Rest ops all) e = record { more = []; left = o ∷ ops; split = Rest (o ∷ ops) (calm, all); is = e ∙ ap (λ l. record { ended = done; left = l }) (append_assoc front (o ∷ []) ops) }
      on _ _ _ (Next o2 ops2 rest more2 left so split) e = record { more = (o ∷ o2 ∷ ops2) ∷ more2; left = left; split = Next o (o2 ∷ ops2) rest more2 left (calm, so) split; is = e ∙ ap (λ l. record { ended = done ++ l ∷ more2; left = left }) (append_assoc front (o ∷ []) (o2 ∷ ops2)) }

  splits : (ops : List LlOp) (done : List (List LlOp)) (front : List LlOp) → SplitSo ops done front (pieces_from found 0 ops (record { ended = done; left = front }))
  splits [] done front = record { more = []; left = []; split = Rest [] tt; is = ap (λ l. record { ended = done; left = l }) (sym (append-nil front)) }
  splits (o ∷ ops) done front = on (λ d f. splits ops d f) (may_raise found o) refl
    where
      on : ((d : List (List LlOp)) (f : List LlOp) → SplitSo ops d f (pieces_from found 0 ops (record { ended = d; left = f }))) → (b : Bool) → may_raise found o ≡ b → SplitSo (o ∷ ops) done front (pieces_from found 0 ops (with_piece o b (record { ended = done; left = front })))
      on go true e = one_piece o ops done front _ (go (done ++ (front ++ o ∷ []) ∷ []) [])
      on go false e = one_more o ops done front _ (quiet_is o ∙ ap not e) (go done (front ++ o ∷ []))

  -- the first so many never end a piece
  skips : (front ops : List LlOp) (before : List LlOp) → pieces_from found (length front) (front ++ ops) (record { ended = []; left = before }) ≡ pieces_from found 0 ops (record { ended = []; left = before ++ front })
  skips [] ops before = ap (λ l. pieces_from found 0 ops (record { ended = []; left = l })) (sym (append-nil before))
  skips (o ∷ front) ops before =
      ap (λ n. pieces_from found n (front ++ ops) (with_piece o (ends found (suc (length front)) o) (record { ended = []; left = before }))) (let z : suc (length front) - 1 ≡ length front = omega arith in z)
      ∙ ap (λ b. pieces_from found (length front) (front ++ ops) (with_piece o b (record { ended = []; left = before }))) (ap (λ b. b && may_raise found o) (let z : (suc (length front) == 0) ≡ false = grind (arith, nat_tests) in z))
      ∙ skips front ops (before ++ o ∷ []) ∙ ap (λ l. pieces_from found 0 ops (record { ended = []; left = l })) (append_assoc before (o ∷ []) front)

  -- ---- their blocks

  abbrev IsPiece : List LlOp → List LlOp → LlExit → Type 0
  IsPiece ops left ends = IsCut quiet needed graph.blocks v by ops (made.Goto last) left ends

  -- where a link leads that goes on with the rest
  data GoesOn (next : LlLink) (rest : List LlOp) : Type 0 where
    AtEnd : rest ≡ [] → next ≡ last → GoesOn next rest
    AtBlock : (block : LlBlock) → slice_get graph.blocks next.to ≡ Some block → next.args ≡ map Var block.inputs → AllIn block.inputs (needed rest) → IsPiece rest block.ops block.exit → GoesOn next rest

  goes_needs : (next : LlLink) (rest : List LlOp) → GoesOn next rest → AllIn (variables_in next.args) (needed rest)
  unfolding live
  goes_needs next rest (AtEnd none same) = subst (λ (l : LlLink). AllIn (variables_in l.args) (needed rest)) (sym same) (subst (λ (ops : List LlOp). AllIn (variables_in last.args) (needed ops)) (sym none) (λ u h. new_takes u (variables_in last.args) [] _ h refl))
  goes_needs next rest (AtBlock block is same inside cut) = subst (λ (xs : List COperand). AllIn (variables_in xs) (needed rest)) (sym same) (subst (λ (vs : List ℕ). AllIn vs (needed rest)) (sym (own_variables block.inputs)) inside)

  -- a piece before that
  piece_cut : (o : LlOp) (ops rest : List LlOp) (next : LlLink) → EndsQuietly quiet (o ∷ ops) → GoesOn next rest → IsPiece (o ∷ (ops ++ rest)) (o ∷ ops) (on_raise_to v by next)
  piece_cut o ops rest next so (AtEnd none same) =
      subst (λ (l : LlLink). IsPiece (o ∷ (ops ++ rest)) (o ∷ ops) (on_raise_to v by l)) (sym same)
      (subst (λ (r : List LlOp). IsPiece (o ∷ (ops ++ r)) (o ∷ ops) (on_raise_to v by last)) (sym none) (subst (λ (all : List LlOp). IsPiece all (o ∷ ops) (on_raise_to v by last)) (sym (append-nil (o ∷ ops))) (Last (o ∷ ops) last so)))
  piece_cut o ops rest next so (AtBlock block is same inside cut) = Piece (o ∷ ops) rest (made.Goto last) next block is same so inside cut

  tail_goes : (left : List LlOp) (e : Extra) → AreQuiet quiet left → AreInGraph graph (tail left last e).1 → GoesOn (tail left last e).0 left × AreInGraph graph e
  unfolding live
  tail_goes [] e all inside = (AtEnd refl refl, inside)
  tail_goes (o ∷ ops) e all inside =
      let b : LlBlock = block_with (live (o ∷ ops) [] last.args) (o ∷ ops) (made.Goto last) in
      (AtBlock b (added_there graph b e inside) refl (λ u h. live_more u (o ∷ ops) last.args [] [] [] _ (λ z. z) (λ z. absurd (cc)) h) (Whole (o ∷ ops) (made.Goto last) all), before_added graph b e inside)

  pieces_go : (ops : List LlOp) (more : List (List LlOp)) (left : List LlOp) (e : Extra) → Split ops more left → AreInGraph graph (pieces v by more (tail left last e)).1 → GoesOn (pieces v by more (tail left last e)).0 ops × AreInGraph graph e
  unfolding live piece
  pieces_go _ _ _ e (Rest ops all) inside = tail_goes ops e all inside
  pieces_go _ _ _ e (Next o ops2 rest more2 left so split) inside =
      let next = pieces v by more2 (tail left last e) in
      let b : LlBlock = block_with (live (o ∷ ops2) (passed_by by v) next.0.args) (o ∷ ops2) (on_raise_to v by next.0) in
      let it = pieces_go rest more2 left e split (before_added graph b next.1 inside) in (
        AtBlock b (added_there graph b next.1 inside) refl
            (λ u h. live_before u (o ∷ ops2) rest next.0.args last.args [] _ _ _ (goes_needs next.0 rest it.0) (λ z. z) (λ z. z) h) (piece_cut o ops2 rest next.0 so it.0),
        it.1,
      )

  -- ---- the block that is being written

  pub record IsCutInto (front ops : List LlOp) (body : Body) (e : Extra) (c : Cut) : Type 0 where
    pub left : List LlOp
    pub ops_are : c.body.ops ≡ front ++ left
    pub types_are : c.body.types ≡ body.types
    pub cut : AreInGraph graph c.extra → IsPiece ops left c.exit
    pub before : AreInGraph graph c.extra → AreInGraph graph e

  cut_split : (front ops : List LlOp) (more : List (List LlOp)) (left : List LlOp) (body : Body) (e : Extra) → Split ops more left → IsCutInto front ops body e (cut_as v by last (before_pieces [] front more left) body e)
  cut_split front _ _ _ body e (Rest ops all) = record { left = ops; ops_are = refl; types_are = refl; cut = λ inside. Whole ops (made.Goto last) all; before = λ inside. inside }
  cut_split front _ _ _ body e (Next o ops2 rest more2 left so split) = record {
    left = o ∷ ops2;
    ops_are = refl;
    types_are = refl;
    cut = λ inside. piece_cut o ops2 rest (pieces v by more2 (tail left last e)).0 so (pieces_go rest more2 left e split inside).0;
    before = λ inside. (pieces_go rest more2 left e split inside).1;
  }

  -- behind the first so many operations
  pub cut_is : (front ops : List LlOp) (body : Body) (e : Extra) → body.ops ≡ front ++ ops → IsCutInto front ops body e (cut v by last (length front) found body e)
  unfolding cut pieces_of
  cut_is front ops body e h =
      let it = splits ops [] front in
      subst (λ (ps : Pieces). IsCutInto front ops body e (cut_as v by last ps body e)) (sym (ap (λ os. pieces_from found (length front) os (record { ended = []; left = [] })) h ∙ skips front ops [] ∙ it.is)) (cut_split front ops it.more it.left body e it.split)
