-- What the explicit program reads on, the program does too.
use Rattle.std.proofs.Common.{◌≡◌, ℕ, Bool, true, false, ◌&&◌, ◌||◌, ◌==◌, List, [], ◌∷◌, ◌++◌, Option, Some, None, refl, sym, ap, ◌∙◌, subst, ◌⊎◌, inl, inr}
use Rattle.std.specs.Prelude.{not, cond}
use Rattle.csub_tree.specs.declared.tree.COperand.TheVariants.{Var}
use Rattle.ll_code.specs.declared.program.LlType.{LlType}
use Rattle.ll_code.specs.declared.program.LlType.TheVariants as type
use Rattle.ll_code.specs.declared.program.LlLink.{LlLink}
use Rattle.ll_code.specs.declared.program.LlOp.{LlOp}
use Rattle.ll_code.specs.declared.program.LlOp.TheVariants as op
use Rattle.ll_code.specs.declared.program.LlExit.{LlExit}
use Rattle.ll_code.specs.declared.program.LlExit.TheVariants as exit
use Rattle.ll_code.specs.declared.program.LlGraph.{LlGraph}
use Rattle.ll_code.specs.declared.program.LlProgram.{LlProgram}
use Rattle.ll_live.specs.Live.{among, variables_in, reads, set_by, sets, exit_variables, live as reads_on}
use Rattle.ll_held.proofs.Keeping.{or_left, or_right, or_one}
use Rattle.exc_transform.specs.declared.family.Family.{Family}
use Rattle.exc_transform.specs.declared.pieces.Ending.{Ending}
use Rattle.exc_transform.specs.declared.pieces.Ending.TheVariants.{Leaves, Raises, Tested}
use Rattle.exc_transform.specs.Explicit.{is_tested, default_of, led_to, same_led, raising, raising_by, testing, taking, way_ops, way_exit, raised_ops}
use Rattle.exc_transform.specs.Raising.{may_raise}
use Rattle.exc_transform.specs.Live.{read_behind, handler_reads, as_operands, live}
use Rattle.exc_transform.specs.Pieces.{Around, onward, on_by, on, test_exit, ending_in, ops_by, exit_by, piece_ops, piece_exit}
use Rattle.exc_transform.proofs.Without.{raises_is, tested_calm}
use Rattle.exc_laws.specs.Ready.{marks_of, any_of}
use Rattle.exc_laws.specs.Stands.{around_in, needs, PieceAt, TestAt}
use Rattle.exc_laws.proofs.Lives.{new_in, live_needed, behind_reads, more_needed, handled_needed, among_either}

-- ---- truth values

or_none : (b : Bool) → (b || false) ≡ true → b ≡ true
or_none true h = refl
or_none false h = absurd (cc)

not_true : (b : Bool) → not b ≡ true → b ≡ false
not_true true h = absurd (cc)
not_true false h = refl

not_set : (b x : Bool) → (not b && x) ≡ true → (b ≡ false) × (x ≡ true)
not_set true x h = absurd (cc)
not_set false x h = (refl, h)

carry : (a b x y : Bool) → (x ≡ true → y ≡ true) → (a || (not b && x)) ≡ true → (a || (not b && y)) ≡ true
carry true b x y f h = refl
carry false true x y f h = absurd (cc)
carry false false x y f h = f h

nil_right : {A : Type 0} (xs : List A) → xs ++ [] ≡ xs
nil_right [] = refl
nil_right (x ∷ xs) = ap (λ l. x ∷ l) (nil_right xs)

-- ---- what the program reads on

module _ (p : LlProgram) where
  -- what catches an exception is read on
  pub handled_plain : (ops : List LlOp) (e : LlExit) (v : ℕ) → among v (handler_reads ops e) ≡ true → reads_on ops e v ≡ true
  handled_plain [] (exit.OnRaise a (Some by) without) v h = or_right (among v (variables_in without.args)) _ (one (new_in v (variables_in by.args) (a ∷ []) [] h))
    where
      apart : (b c : Bool) → (b || false) ≡ false → c ≡ true → (not b && c) ≡ true
      apart true c h k = absurd (cc)
      apart false c h k = k

      one : (among v [] ≡ true) ⊎ ((among v (a ∷ []) ≡ false) × (among v (variables_in by.args) ≡ true)) → (not (a == v) && among v (variables_in by.args)) ≡ true
      one (inl h) = absurd (cc)
      one (inr h) = apart (a == v) (among v (variables_in by.args)) h.0 h.1
  handled_plain [] (exit.OnRaise a None without) v h = absurd (cc)
  handled_plain [] (exit.Goto link) v h = absurd (cc)
  handled_plain [] (exit.If a there elsewhere) v h = absurd (cc)
  handled_plain [] (exit.Return x) v h = absurd (cc)
  handled_plain [] (exit.Raise a) v h = absurd (cc)
  handled_plain [] (exit.Fail n) v h = absurd (cc)
  handled_plain [] (exit.Raised a) v h = absurd (cc)
  handled_plain (o ∷ ops) e v h = absurd (cc)

  -- and so is what is needed
  pub needed_plain : (raises : Bool) (ops : List LlOp) (e : LlExit) (v : ℕ) → needs p raises ops e v ≡ true → reads_on ops e v ≡ true
  needed_plain false [] e v h = or_left (among v (exit_variables e)) _ h
  needed_plain true [] e v h = one (among v (handler_reads [] e)) refl
    where
      other : among v (handler_reads [] e) ≡ false → (b : Bool) → among v (exit_variables e) ≡ b → b ≡ true
      other f true k = refl
      other f false k = absurd (let g : true ≡ false = sym h ∙ among_either v (handler_reads [] e) (exit_variables e) f k in cc)

      one : (b : Bool) → among v (handler_reads [] e) ≡ b → reads_on [] e v ≡ true
      one true f = handled_plain [] e v f
      one false f = or_left (among v (exit_variables e)) _ (other f (among v (exit_variables e)) refl)
  needed_plain raises (o ∷ ops) e v h = carry (among v (reads o)) (sets (set_by o) v) _ _ (needed_plain (may_raise (marks_of p) (any_of p) o) ops e v) h

-- ---- what the pieces of blocks read on

default_live : (t : LlType) (v : ℕ) → reads_on [] (exit.Return (default_of t)) v ≡ true → ⊥
default_live type.Signed v h = absurd (cc)
default_live type.Char v h = absurd (cc)
default_live type.Bool v h = absurd (cc)
default_live type.Void v h = absurd (cc)
default_live type.Fn v h = absurd (cc)
default_live (type.Ptr n) v h = absurd (cc)

raising_live : (family : Family) (kind w : ℕ) (more : List LlOp) (e : LlExit) (v : ℕ) → reads_on (raising family kind w ++ more) e v ≡ true → (among v (w ∷ []) ≡ true) ⊎ (reads_on more e v ≡ true)
raising_live family kind w more e v h = by family.root family.kind h
  where
    twice : (b x : Bool) → ((b || (b || false)) || x) ≡ true → ((b || false) ≡ true) ⊎ (x ≡ true)
    twice true x h = inl refl
    twice false x h = inr h

    got : (b c x : Bool) → ((b || false) || (not c && ((c || (b || false)) || x))) ≡ true → ((b || false) ≡ true) ⊎ (x ≡ true)
    got true c x h = inl refl
    got false true x h = absurd (cc)
    got false false x h = inr h

    by : (root : ℕ) (o : Option ℕ) → reads_on (raising_by root o kind w ++ more) e v ≡ true → (among v (w ∷ []) ≡ true) ⊎ (reads_on more e v ≡ true)
    by root None h = twice (w == v) (reads_on more e v) h
    by root (Some n) h = got (w == v) (kind == v) (reads_on more e v) h

taking_live : (family : Family) (types : List LlType) (a : ℕ) (by : LlLink) (v : ℕ) → reads_on (taking family types a) (exit.Goto by) v ≡ true → among v (read_behind a by) ≡ true
taking_live family types a by v h = let k = not_set (a == v) _ h in behind_reads v a (variables_in by.args) (or_none (among v (variables_in by.args)) k.1) k.0

raised_live : (family : Family) (types : List LlType) (kind w : ℕ) (result : LlType) (rest : List LlOp) (e : LlExit) (v : ℕ) → reads_on (raised_ops family types kind w rest e) (way_exit result rest e) v ≡ true → (among v (w ∷ []) ≡ true) ⊎ (among v (handler_reads rest e) ≡ true)
raised_live family types kind w result rest e v h = by rest e h
  where
    out : (x : (among v (w ∷ []) ≡ true) ⊎ (reads_on [] (exit.Return (default_of result)) v ≡ true)) → (hs : List ℕ) → (among v (w ∷ []) ≡ true) ⊎ (among v hs ≡ true)
    out (inl h) hs = inl h
    out (inr h) hs = absurd (default_live result v h)

    leaves : (hs : List ℕ) → reads_on (raising family kind w) (exit.Return (default_of result)) v ≡ true → (among v (w ∷ []) ≡ true) ⊎ (among v hs ≡ true)
    leaves hs h = out (raising_live family kind w [] (exit.Return (default_of result)) v (subst (λ ops. reads_on ops (exit.Return (default_of result)) v ≡ true) (sym (nil_right (raising family kind w))) h)) hs

    caught : (a : ℕ) (link : LlLink) → (among v (w ∷ []) ≡ true) ⊎ (reads_on (taking family types a) (exit.Goto link) v ≡ true) → (among v (w ∷ []) ≡ true) ⊎ (among v (read_behind a link) ≡ true)
    caught a link (inl h) = inl h
    caught a link (inr h) = inr (taking_live family types a link v h)

    copied : (a : ℕ) (link : LlLink) → (among v (w ∷ []) ≡ true) ⊎ ((not (a == v) && (among v (variables_in link.args) || false)) ≡ true) → (among v (w ∷ []) ≡ true) ⊎ (among v (read_behind a link) ≡ true)
    copied a link (inl h) = inl h
    copied a link (inr h) = let k = not_set (a == v) _ h in inr (behind_reads v a (variables_in link.args) (or_none (among v (variables_in link.args)) k.1) k.0)

    given : (a : ℕ) (link : LlLink) (b : Bool) → reads_on (cond b (op.Set a (Var w) ∷ []) (raising family kind w ++ taking family types a)) (exit.Goto link) v ≡ true → (among v (w ∷ []) ≡ true) ⊎ (among v (read_behind a link) ≡ true)
    given a link true h = copied a link (or_one (among v (w ∷ [])) _ h)
    given a link false h = caught a link (raising_live family kind w (taking family types a) (exit.Goto link) v h)

    by : (rest : List LlOp) (e : LlExit) → reads_on (raised_ops family types kind w rest e) (way_exit result rest e) v ≡ true → (among v (w ∷ []) ≡ true) ⊎ (among v (handler_reads rest e) ≡ true)
    by [] (exit.OnRaise a (Some link) without) h = given a link (same_led (led_to types a) (led_to types w)) h
    by [] (exit.OnRaise a None without) h = leaves [] h
    by [] (exit.Goto l) h = leaves [] h
    by [] (exit.If a there elsewhere) h = leaves [] h
    by [] (exit.Return x) h = leaves [] h
    by [] (exit.Raise a) h = leaves [] h
    by [] (exit.Fail n) h = leaves [] h
    by [] (exit.Raised a) h = leaves [] h
    by (o ∷ rest) e h = leaves [] h

-- the block for the exceptions of a call
pub way_live : (family : Family) (types : List LlType) (result : LlType) (rest : List LlOp) (e : LlExit) (v : ℕ) → reads_on (way_ops family types rest e) (way_exit result rest e) v ≡ true → among v (handler_reads rest e) ≡ true
way_live family types result [] (exit.OnRaise a (Some link) without) v h = taking_live family types a link v h
way_live family types result [] (exit.OnRaise a None without) v h = absurd (default_live result v h)
way_live family types result [] (exit.Goto l) v h = absurd (default_live result v h)
way_live family types result [] (exit.If a there elsewhere) v h = absurd (default_live result v h)
way_live family types result [] (exit.Return x) v h = absurd (default_live result v h)
way_live family types result [] (exit.Raise a) v h = absurd (default_live result v h)
way_live family types result [] (exit.Fail n) v h = absurd (default_live result v h)
way_live family types result [] (exit.Raised a) v h = absurd (default_live result v h)
way_live family types result (o ∷ rest) e v h = absurd (default_live result v h)

operands_in : (v : ℕ) (vs : List ℕ) → among v (variables_in (as_operands vs)) ≡ true → among v vs ≡ true
operands_in v [] h = h
operands_in v (w ∷ vs) h = one (w == v) (operands_in v vs) h
  where
    one : (b : Bool) → (among v (variables_in (as_operands vs)) ≡ true → among v vs ≡ true) → (b || among v (variables_in (as_operands vs))) ≡ true → (b || among v vs) ≡ true
    one true go h = refl
    one false go h = go h

tested_raises : (marks : List Bool) (any : Bool) (o : LlOp) → is_tested marks any o ≡ true → may_raise marks any o ≡ true
tested_raises marks any (op.Raise a) h = refl
tested_raises marks any other h = h

module _ (p : LlProgram) (graph : LlGraph) where
  abbrev Here : Around
  Here = around_in p graph

  -- behind a call that is tested
  pub test_live : (rest : List LlOp) (e : LlExit) (way v : ℕ) → reads_on (testing Here.family Here.kind Here.test) (test_exit Here rest e way) v ≡ true → (needs p false rest e v ≡ true) ⊎ (among v (handler_reads rest e) ≡ true)
  test_live rest e way v h = out (kind_read (Here.kind == v) (Here.test == v) _ _ h)
    where
      kind_read : (k t x y : Bool) → (not k && ((k || false) || (not t && ((t || x) || y)))) ≡ true → (x ≡ true) ⊎ (y ≡ true)
      kind_read true t x y h = absurd (cc)
      kind_read false true x y h = absurd (cc)
      kind_read false false true y h = inl refl
      kind_read false false false y h = inr h

      passes : (o : Option LlLink) → onward rest e ≡ o → among v (variables_in (on_by Here rest e way o).args) ≡ true → needs p false rest e v ≡ true
      passes None f h = live_needed p e v rest (operands_in v (live (marks_of p) (any_of p) rest e) h)
      passes (Some link) f h = linked rest e f
        where
          linked : (rest : List LlOp) (e : LlExit) → onward rest e ≡ Some link → needs p false rest e v ≡ true
          linked [] (exit.Goto l) f = let i : link ≡ l = cc in ap (λ (l : LlLink). among v (variables_in l.args)) (sym i) ∙ h
          linked [] (exit.OnRaise a by without) f = let i : link ≡ without = cc in ap (λ (l : LlLink). among v (variables_in l.args)) (sym i) ∙ h
          linked [] (exit.If a there elsewhere) f = absurd (cc)
          linked [] (exit.Return x) f = absurd (cc)
          linked [] (exit.Raise a) f = absurd (cc)
          linked [] (exit.Fail n) f = absurd (cc)
          linked [] (exit.Raised a) f = absurd (cc)
          linked (o ∷ rest) e f = absurd (cc)

      split : (xs ys : List ℕ) → among v (xs ++ ys) ≡ true → (among v xs ≡ true) ⊎ (among v ys ≡ true)
      split xs ys h = one (among v xs) refl (among v ys) refl
        where
          one : (a : Bool) → among v xs ≡ a → (b : Bool) → among v ys ≡ b → (among v xs ≡ true) ⊎ (among v ys ≡ true)
          one true f b g = inl f
          one false f true g = inr g
          one false f false g = absurd (let k : true ≡ false = sym h ∙ among_either v xs ys f g in cc)

      either : (among v (variables_in (on Here rest e way).args) ≡ true) ⊎ (among v (variables_in (as_operands (handler_reads rest e))) ≡ true) → (needs p false rest e v ≡ true) ⊎ (among v (handler_reads rest e) ≡ true)
      either (inl h) = inl (passes (onward rest e) refl h)
      either (inr h) = inr (operands_in v (handler_reads rest e) h)

      out : (among v (variables_in (on Here rest e way).args ++ variables_in (as_operands (handler_reads rest e))) ≡ true) ⊎ (false ≡ true) → (needs p false rest e v ≡ true) ⊎ (among v (handler_reads rest e) ≡ true)
      out (inl h) = either (split _ _ h)
      out (inr h) = absurd (cc)

  pub piece_live : (ops : List LlOp) (e : LlExit) (way v : ℕ) → reads_on (piece_ops Here ops e) (piece_exit Here ops e way) v ≡ true → needs p false ops e v ≡ true
  piece_live [] (exit.Goto link) way v h = or_none _ h
  piece_live [] (exit.If a there elsewhere) way v h = or_none _ h
  piece_live [] (exit.OnRaise a by without) way v h = or_none _ h
  piece_live [] (exit.Return x) way v h = or_none _ h
  piece_live [] (exit.Raise w) way v h = one (raising_live Here.family Here.kind w [] (exit.Return (default_of graph.result)) v (subst (λ ops. reads_on ops (exit.Return (default_of graph.result)) v ≡ true) (sym (nil_right (raising Here.family Here.kind w))) h))
    where
      one : (among v (w ∷ []) ≡ true) ⊎ (reads_on [] (exit.Return (default_of graph.result)) v ≡ true) → among v (w ∷ []) ≡ true
      one (inl h) = h
      one (inr h) = absurd (default_live graph.result v h)
  piece_live [] (exit.Fail n) way v h = or_none _ h
  piece_live [] (exit.Raised a) way v h = or_none _ h
  piece_live (o ∷ rest) e way v h = by (piece_live rest e way v) (ending_in Here o) refl h
    where
      after : may_raise (marks_of p) (any_of p) o ≡ true → (needs p false rest e v ≡ true) ⊎ (among v (handler_reads rest e) ≡ true) → needs p (may_raise (marks_of p) (any_of p) o) rest e v ≡ true
      after m (inl k) = more_needed p (may_raise (marks_of p) (any_of p) o) rest e v k
      after m (inr k) = ap (λ b. needs p b rest e v) m ∙ handled_needed p rest e v k

      thrown : (w : ℕ) (o : LlOp) → o ≡ op.Raise w → (among v (w ∷ []) ≡ true) ⊎ (among v (handler_reads rest e) ≡ true) → needs p false (o ∷ rest) e v ≡ true
      thrown w o i (inl k) = ap (λ o. needs p false (o ∷ rest) e v) i ∙ or_left (among v (w ∷ [])) _ k
      thrown w o i (inr k) = ap (λ o. needs p false (o ∷ rest) e v) i ∙ or_right (among v (w ∷ [])) _ (handled_needed p rest e v k)

      by : (reads_on (piece_ops Here rest e) (piece_exit Here rest e way) v ≡ true → needs p false rest e v ≡ true) → (y : Ending) → ending_in Here o ≡ y
          → reads_on (ops_by Here o rest e y (piece_ops Here rest e)) (exit_by Here rest e way y (piece_exit Here rest e way)) v ≡ true → needs p false (o ∷ rest) e v ≡ true
      by go (Raises w) f h = thrown w o (raises_is (marks_of p) (any_of p) o w f) (raised_live Here.family Here.types Here.kind w Here.result rest e v h)
      by go Tested f h = carry (among v (reads o)) (sets (set_by o) v) _ _ (λ k. after (tested_raises (marks_of p) (any_of p) o (tested_calm (marks_of p) (any_of p) o f).1) (test_live rest e way v k)) h
      by go Leaves f h = carry (among v (reads o)) (sets (set_by o) v) _ _ (λ k. more_needed p (may_raise (marks_of p) (any_of p) o) rest e v (go k)) h

  -- what stands where a piece begins, or behind a call that is tested
  pub left_live : (ops : List LlOp) (e : LlExit) (x_ops : List LlOp) (x_exit : LlExit) (v : ℕ) → PieceAt p graph ops e x_ops x_exit → reads_on x_ops x_exit v ≡ true → needs p false ops e v ≡ true
  left_live ops e x_ops x_exit v t h = piece_live ops e t.way v (ap (λ l. reads_on l (piece_exit Here ops e t.way) v) (sym t.left) ∙ ap (λ x. reads_on x_ops x v) (sym t.end) ∙ h)

  pub tested_live : (ops : List LlOp) (e : LlExit) (x_ops : List LlOp) (x_exit : LlExit) (v : ℕ) → TestAt p graph ops e x_ops x_exit → reads_on x_ops x_exit v ≡ true → (needs p false ops e v ≡ true) ⊎ (among v (handler_reads ops e) ≡ true)
  tested_live ops e x_ops x_exit v t h = test_live ops e t.way v (ap (λ l. reads_on l (test_exit Here ops e t.way) v) (sym t.left) ∙ ap (λ x. reads_on x_ops x v) (sym t.end) ∙ h)
