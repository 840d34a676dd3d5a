-- A copy of a value is that value, and pays nothing: so without copies a program means the same.
use Rattle.std.proofs.Common.{◌≡◌, ℕ, zero, suc, Bool, true, false, List, [], ◌∷◌, ◌++◌, map, length, Option, Some, None, refl, sym, ap, ◌∙◌}
use Rattle.std.specs.Prelude.{ℤ, ◌-◌, ◌||◌, replicate, slice_get, option_map, if◌then◌else◌}
use Rattle.rpy_tree.specs.Value.{Value, Word, Ref}
use Rattle.std.specs.Prelude.{pos}
use Rattle.rpy_meaning.specs.declared.row.Covers.{Covers}
use Rattle.rpy_meaning.specs.declared.row.RowOp.{RowOp}
use Rattle.rpy_meaning.specs.declared.row.RowOp.TheVariants as row
use Rattle.rpy_meaning.specs.Costs.{entry_cost}
use Rattle.rpy_meaning.specs.Tree.{Expr, Local, Constant, Apply, And, Or, Display, Comprehension, Exprs, none, more, Pairs, no_pairs, pair, Subject, Over, UpTo, FromTo, Condition, Always, Where, Target, Name, Attribute, Item, Parts, Targets, no_targets, more_targets, Stmt, Pass, Break, Continue, Return, Do, Assign, Augment, If, While, For, Try, Finally, Block, done, line, Clauses, no_clauses, clause, Function, Class, Program}
use Rattle.rpy_meaning.specs.World.{World, Answer, Gives, Throws, Fails, Lacks, Enters, Bad}
use Rattle.rpy_meaning.specs.Classes.{takes, some_takes, covers_within, no_covers}
use Rattle.rpy_meaning.specs.Operations.{op}
use Rattle.rpy_meaning.specs.Evaluation.{State, Ending, Done, Raised, Failed, Running, Wrong, Eval, then_go, ◌>>=◌, ◌>>◌, pure, wrong, holding, pay, local, set_local, set_local_if_any, is_so, Flow, Next, Broken, Continued, Returned, next_or, after_turn, finally, leaving, parameters}
use Rattle.rpy_meaning.specs.Meaning.{Sem, Task, Body, Loop, Turns, Gather, Walking, walk_holds, Before, Behind, Entry, Watch, unwatched, target_count, class_in, entered, called, answered, operate_holding, operate, perform, on_walk, turn, turns, gather, value, values, store_pairs, begin, keeps, take, take_parts, bind, assign, augment, loop, each_item, tried, statement, block, handle, task, within, ended, start, prebuilt, run, mean}
use Rattle.rpy_meaning.specs.Moments.{stopping, moment}
use Rattle.resolved_laws.specs.Uncopied.{is_checked, copy_of, bare, uncopied_expr, uncopied_exprs, uncopied_pairs, uncopied_subject, uncopied_condition, uncopied_target, uncopied_targets, uncopied_stmt, uncopied_block, uncopied_clauses, uncopied_function, uncopied}
use Rattle.resolved_laws.proofs.Ops.{op_same}

-- what is asked of the level below
abbrev uncopied_task : Task → Task
uncopied_task (Body b) = Body (uncopied_block b)
uncopied_task (Loop c e body) = Loop c (uncopied_expr e) (uncopied_block body)
uncopied_task (Turns c target body walking) = Turns c (uncopied_target target) (uncopied_block body) walking
uncopied_task (Gather c item target condition list walking) = Gather c (uncopied_expr item) (uncopied_target target) (uncopied_condition condition) list walking

count_same : (ts : Targets) → target_count (uncopied_targets ts) ≡ target_count ts
count_same no_targets = refl
count_same (more_targets t ts) = ap suc (count_same ts)

some_same : (classes : List Class) (cs : Clauses) (k : ℕ) → some_takes classes (uncopied_clauses cs) k ≡ some_takes classes cs k
some_same classes no_clauses k = refl
some_same classes (clause taken name body rest) k = ap (λ b. takes classes taken k || b) (some_same classes rest k)

covers_same : (classes : List Class) (cs : Clauses) (c : Covers) → covers_within classes (uncopied_clauses cs) c ≡ covers_within classes cs c
covers_same classes cs c = λ i. record {
  index = c.index || some_same classes cs 6 i;
  zero = c.zero || some_same classes cs 4 i;
  number = c.number || some_same classes cs 8 i;
  attribute = c.attribute || some_same classes cs 9 i;
}

pub there : (functions : List Function) (f : ℕ) → slice_get (map uncopied_function functions) f ≡ option_map uncopied_function (slice_get functions f)
there [] f = refl
there (g ∷ gs) zero = refl
there (g ∷ gs) (suc f) = there gs f

-- a watch that does nothing at copies
pub record Quiet (W : Watch) : Type 0 where
  pub before : (vs : List Value) → W (Before row.Copy) vs ≡ pure tt
  pub behind : (vs : List Value) → W (Behind row.Copy) vs ≡ pure tt

module _ (W : Watch) (quiet : Quiet W) where
  -- ---- copies

  module _ (p : Program) (prev : Sem) (c : Covers) where
    -- one value is evaluated and copied
    copied : (e : Ending Value) → then_go (then_go e (λ v. holding (v ∷ []) (pure []) >>= (λ vs. pure (v ∷ vs)))) (perform p W prev c row.Copy) ≡ e
    copied (Done v s) =
        ap (λ (w : Eval (Unit {0})). then_go (w s) (λ a t. then_go (W (Behind row.Copy) (v ∷ []) t) (λ b. pure v))) (quiet.before (v ∷ []))
        ∙ ap (λ (w : Eval (Unit {0})). then_go (w s) (λ b. pure v)) (quiet.behind (v ∷ []))
    copied (Raised r s) = refl
    copied (Failed name s) = refl
    copied (Running held s) = refl
    copied Wrong = refl

    picked : (e : Expr) (b : Bool) → value p W prev c (if b then e else Apply row.Copy (more e none)) ≡ value p W prev c (Apply row.Copy (more e none))
    picked e true = λ i s. sym (copied (value p W prev c e s)) i
    picked e false = refl

    copy_same : (es : Exprs) → value p W prev c (copy_of es) ≡ value p W prev c (Apply row.Copy es)
    copy_same none = refl
    copy_same (more e none) = picked e (is_checked e)
    copy_same (more e (more f es)) = refl

    pub bare_same : (o : RowOp) (es : Exprs) → value p W prev c (bare o es) ≡ value p W prev c (Apply o es)
    bare_same (row.Word z) es = refl
    bare_same (row.Str text) es = refl
    bare_same (row.Bool b) es = refl
    bare_same row.None es = refl
    bare_same (row.Constant a) es = refl
    bare_same row.Copy es = copy_same es
    bare_same (row.Unary f) es = refl
    bare_same (row.Binary f site) es = refl
    bare_same row.AddTo es = refl
    bare_same row.CheckedNeg es = refl
    bare_same (row.Checked f) es = refl
    bare_same (row.Compare f) es = refl
    bare_same row.Not es = refl
    bare_same row.Truth es = refl
    bare_same row.Intmask es = refl
    bare_same row.Min es = refl
    bare_same row.Max es = refl
    bare_same row.Len es = refl
    bare_same row.Ord es = refl
    bare_same row.Chr es = refl
    bare_same row.ToStr es = refl
    bare_same row.ToInt es = refl
    bare_same row.Write es = refl
    bare_same (row.IsInstance d) es = refl
    bare_same (row.Index literal) es = refl
    bare_same row.StoreIndex es = refl
    bare_same row.DeleteIndex es = refl
    bare_same (row.Attr name) es = refl
    bare_same (row.StoreAttr name) es = refl
    bare_same (row.Slice site low high) es = refl
    bare_same (row.AllButLast site) es = refl
    bare_same row.Tuple es = refl
    bare_same (row.List site) es = refl
    bare_same (row.Dict site) es = refl
    bare_same (row.Comprehension site) es = refl
    bare_same row.AddItem es = refl
    bare_same (row.Call f) es = refl
    bare_same (row.CallOf d f) es = refl
    bare_same row.CallValue es = refl
    bare_same (row.New d) es = refl
    bare_same (row.Method name site) es = refl
    bare_same row.Raise es = refl
    bare_same row.Print es = refl
    bare_same (row.Walk site) es = refl
    bare_same (row.HasItem step) es = refl
    bare_same (row.Item step) es = refl
    bare_same (row.Advance step) es = refl
    bare_same row.Turn es = refl
    bare_same (row.Unpack count place) es = refl
    bare_same row.DropNone es = refl
    bare_same row.OnlyNone es = refl
    bare_same row.FalseNone es = refl
    bare_same (row.Lower d) es = refl
    bare_same row.NonNegative es = refl

  -- ---- all parts

  tried_same : (p : Program) (prev prev' : Sem) (e : Ending Flow) (other : Eval Flow) (handled : ℕ → Eval Flow) → tried (uncopied p) W prev' e other handled ≡ tried p W prev e other handled
  tried_same p prev prev' (Done Next s) other handled = refl
  tried_same p prev prev' (Done Broken s) other handled = refl
  tried_same p prev prev' (Done Continued s) other handled = refl
  tried_same p prev prev' (Done (Returned v) s) other handled = refl
  tried_same p prev prev' (Raised r s) other handled = refl
  tried_same p prev prev' (Failed name s) other handled = refl
  tried_same p prev prev' (Running held s) other handled = refl
  tried_same p prev prev' Wrong other handled = refl

  module _ (p : Program) (prev prev' : Sem) (below : (t : Task) → prev' (uncopied_task t) ≡ prev t) where
    entered_same : (f : Function) (args : List Value) (instead : Option Value) (vs : Option (List Value))
        → entered (uncopied p) W prev' (uncopied_function f) args instead vs ≡ entered p W prev f args instead vs
    entered_same f args instead None = refl
    entered_same f args instead (Some vs) = λ i.
        W Entry args >> (pay entry_cost args >> (λ s. leaving s.locals args instead (below (Body f.body) i (record s { locals = map Some vs ++ replicate (f.locals - length vs) None }))))

    called_some : (f : Option Function) (args : List Value) (instead : Option Value)
        → called (uncopied p) W prev' (option_map uncopied_function f) args instead ≡ called p W prev f args instead
    called_some None args instead = refl
    called_some (Some f) args instead = λ i. if f.takes_more then wrong else entered_same f args instead (parameters f.defaults args) i

    pub called_same : (f : ℕ) (args : List Value) (instead : Option Value)
        → called (uncopied p) W prev' (slice_get (map uncopied_function p.functions) f) args instead ≡ called p W prev (slice_get p.functions f) args instead
    called_same f args instead =
        ap (λ g. called (uncopied p) W prev' g args instead) (there p.functions f) ∙ called_some (slice_get p.functions f) args instead

    answered_same : (a : Answer) (held : List Value) → answered (uncopied p) W prev' a held ≡ answered p W prev a held
    answered_same (Gives v w) held = refl
    answered_same (Throws r w) held = refl
    answered_same (Fails name) held = refl
    answered_same Lacks held = refl
    answered_same (Enters f args instead w) held = λ i s. called_same f args instead i (record s { world = w })
    answered_same Bad held = refl

    -- an operation in a state
    at_state : (held : List Value) (c : Covers) (o : RowOp) (vs : List Value) (s : State)
        → answered (uncopied p) W prev' (op (uncopied p) c o vs s.world) held s ≡ answered p W prev (op p c o vs s.world) held s
    at_state held c o vs s =
        ap (λ (f : World → Answer). answered (uncopied p) W prev' (f s.world) held s) (op_same p c o vs)
        ∙ (λ i. answered_same (op p c o vs s.world) held i s)

    operate_holding_same : (stays held : List Value) (c : Covers) (o : RowOp) (vs : List Value)
        → operate_holding (uncopied p) W prev' stays held c o vs ≡ operate_holding p W prev stays held c o vs
    operate_holding_same stays held c o vs = λ i. W (Before o) held >> ((λ s. at_state held c o vs s i) >>= (λ v. W (Behind o) (v ∷ stays) >> pure v))

    operate_same : (held : List Value) (c : Covers) (o : RowOp) (vs : List Value) → operate (uncopied p) W prev' held c o vs ≡ operate p W prev held c o vs
    operate_same held c o vs = operate_holding_same [] held c o vs

    perform_same : (c : Covers) (o : RowOp) (vs : List Value) → perform (uncopied p) W prev' c o vs ≡ perform p W prev c o vs
    perform_same c o vs = operate_same vs c o vs

    -- ---- walks

    walk_same : (o : Option ℤ → RowOp) (walking : Walking) → on_walk (uncopied p) W prev' o walking ≡ on_walk p W prev o walking
    walk_same o walking = operate_holding_same (walk_holds walking) (walk_holds walking) no_covers (o walking.step) (walk_holds walking)

    turn_same : (each each' : Value → Eval Flow) (rest rest' : Walking → Eval Flow) → each' ≡ each → rest' ≡ rest → (walking : Walking)
        → turn (uncopied p) W prev' each' rest' walking ≡ turn p W prev each rest walking
    turn_same each each' rest rest' e r walking = λ i.
        holding (walk_holds walking) (perform_same no_covers row.Turn [] i)
        >> (walk_same row.Item walking i >>= (λ v.
        holding (walk_holds walking) (e i v) >>= (λ flow.
        after_turn flow (walk_same row.Advance walking i >>= (λ next. r i (record walking { at = next }))))))

    turns_same : (each each' : Value → Eval Flow) (rest rest' : Walking → Eval Flow) → each' ≡ each → rest' ≡ rest → (walking : Walking)
        → turns (uncopied p) W prev' each' rest' walking ≡ turns p W prev each rest walking
    turns_same each each' rest rest' e r walking = λ i.
        (walk_same row.HasItem walking i >>= is_so) >>= (λ go. if go then turn_same each each' rest rest' e r walking i else pure Next)

    gather_same : (bound bound' : Value → Eval (Unit {0})) (test test' : Eval Bool) (item item' : Eval Value) → bound' ≡ bound → test' ≡ test → item' ≡ item
        → (c : Covers) (list : Value) → gather (uncopied p) W prev' bound' test' item' c list ≡ gather p W prev bound test item c list
    gather_same bound bound' test test' item item' b t e c list = λ i v.
        holding (v ∷ []) (b i v)
        >> (t i >>= (λ wanted.
        if wanted
        then (e i >>= (λ x. operate_same (x ∷ []) c row.AddItem (list ∷ x ∷ []) i >> pure Next))
        else pure Next))

    -- ---- expressions

    gathers_same : (c : Covers) (item : Expr) (target : Target) (condition : Condition) (list : Value) (walking : Walking)
        → bind (uncopied p) W prev' c (uncopied_target target) ≡ bind p W prev c target → keeps (uncopied p) W prev' c (uncopied_condition condition) ≡ keeps p W prev c condition → value (uncopied p) W prev' c (uncopied_expr item) ≡ value p W prev c item
        → turns (uncopied p) W prev' (gather (uncopied p) W prev' (bind (uncopied p) W prev' c (uncopied_target target)) (keeps (uncopied p) W prev' c (uncopied_condition condition)) (value (uncopied p) W prev' c (uncopied_expr item)) c list) (λ rest. prev' (Gather c (uncopied_expr item) (uncopied_target target) (uncopied_condition condition) list rest)) walking
        ≡ turns p W prev (gather p W prev (bind p W prev c target) (keeps p W prev c condition) (value p W prev c item) c list) (λ rest. prev (Gather c item target condition list rest)) walking
    gathers_same c item target condition list walking b k e =
        turns_same _ _ _ _ (gather_same _ _ _ _ _ _ b k e c list) (λ i rest. below (Gather c item target condition list rest) i) walking

    mutual
      value_same : (c : Covers) (e : Expr) → value (uncopied p) W prev' c (uncopied_expr e) ≡ value p W prev c e
      value_same c (Local i) = refl
      value_same c (Constant v) = refl
      value_same c (Apply o es) =
          bare_same (uncopied p) prev' c o (uncopied_exprs es) ∙ (λ i. values_same c es i >>= (λ vs. perform_same c o vs i))
      value_same c (And a b) = λ i. value_same c a i >>= (λ x. is_so x >>= (λ go. if go then value_same c b i else pure x))
      value_same c (Or a b) = λ i. value_same c a i >>= (λ x. is_so x >>= (λ stop. if stop then pure x else value_same c b i))
      value_same c (Display site ps) = λ i.
          perform_same c (row.Dict site) [] i >>= (λ dict. holding (dict ∷ []) (pairs_same c dict ps i) >> pure dict)
      value_same c (Comprehension site item target subject condition) = λ i.
          perform_same c (row.Comprehension site) [] i
          >>= (λ list. holding (list ∷ []) (begin_same c subject i)
          >>= (λ walking. holding (list ∷ []) (gathers_same c item target condition list walking (λ j. take_same c target j []) (keeps_same c condition) (value_same c item) i) >> pure list))

      values_same : (c : Covers) (es : Exprs) → values (uncopied p) W prev' c (uncopied_exprs es) ≡ values p W prev c es
      values_same c none = refl
      values_same c (more e es) = λ i. value_same c e i >>= (λ v. holding (v ∷ []) (values_same c es i) >>= (λ vs. pure (v ∷ vs)))

      pairs_same : (c : Covers) (dict : Value) (ps : Pairs) → store_pairs (uncopied p) W prev' c dict (uncopied_pairs ps) ≡ store_pairs p W prev c dict ps
      pairs_same c dict no_pairs = refl
      pairs_same c dict (pair k e rest) = λ i.
          value_same c k i
          >>= (λ key. holding (key ∷ []) (value_same c e i)
          >>= (λ v. operate_same (key ∷ v ∷ []) c row.StoreIndex (dict ∷ key ∷ v ∷ []) i >> pairs_same c dict rest i))

      begin_same : (c : Covers) (subject : Subject) → begin (uncopied p) W prev' c (uncopied_subject subject) ≡ begin p W prev c subject
      begin_same c (Over site e) = λ i.
          value_same c e i
          >>= (λ x. perform_same c (row.Walk site) (x ∷ []) i
          >>= (λ over. pure (record { step = None; over = over; at = Word (pos 0) })))
      begin_same c (UpTo e) = λ i. value_same c e i >>= (λ end. pure (record { step = Some (pos 1); over = end; at = Word (pos 0) }))
      begin_same c (FromTo a b step) = λ i.
          value_same c a i
          >>= (λ start. holding (start ∷ []) (value_same c b i)
          >>= (λ end. pure (record { step = Some step; over = end; at = start })))

      keeps_same : (c : Covers) (condition : Condition) → keeps (uncopied p) W prev' c (uncopied_condition condition) ≡ keeps p W prev c condition
      keeps_same c Always = refl
      keeps_same c (Where e) = λ i. value_same c e i >>= is_so

      take_same : (c : Covers) (t : Target) → take (uncopied p) W prev' c (uncopied_target t) ≡ take p W prev c t
      take_same c (Name n) = refl
      take_same c (Attribute e name) = λ i own v.
          value_same c e i >>= (λ x. operate_same (x ∷ own) c (row.StoreAttr name) (x ∷ v ∷ []) i >> pure tt)
      take_same c (Item a b) = λ i own v.
          value_same c a i
          >>= (λ x. holding (x ∷ []) (value_same c b i)
          >>= (λ y. operate_same (x ∷ y ∷ own) c row.StoreIndex (x ∷ y ∷ v ∷ []) i >> pure tt))
      take_same c (Parts ts) = λ i own v. (ap (λ n. take_parts (uncopied p) W prev' c n 0 (uncopied_targets ts) v) (count_same ts) ∙ parts_same c (target_count ts) 0 ts v) i

      parts_same : (c : Covers) (n k : ℕ) (ts : Targets) (v : Value) → take_parts (uncopied p) W prev' c n k (uncopied_targets ts) v ≡ take_parts p W prev c n k ts v
      parts_same c n k no_targets v = refl
      parts_same c n k (more_targets t ts) v = λ i.
          operate_same [] c (row.Unpack n k) (v ∷ []) i >>= (λ x. take_same c t i (x ∷ []) x >> parts_same c n (suc k) ts v i)

    bind_same : (c : Covers) (t : Target) → bind (uncopied p) W prev' c (uncopied_target t) ≡ bind p W prev c t
    bind_same c t = λ i. take_same c t i []

    -- ---- assignments

    assign_same : (c : Covers) (ts : Targets) (v : Value) → assign (uncopied p) W prev' c (uncopied_targets ts) v ≡ assign p W prev c ts v
    assign_same c no_targets v = refl
    assign_same c (more_targets t ts) v = λ i. bind_same c t i v >> assign_same c ts v i

    augment_same : (c : Covers) (t : Target) (o : RowOp) (e : Expr) → augment (uncopied p) W prev' c (uncopied_target t) o (uncopied_expr e) ≡ augment p W prev c t o e
    augment_same c (Name n) o e = λ i.
        local n
        >>= (λ old. holding (old ∷ []) (value_same c e i)
        >>= (λ v. perform_same c o (old ∷ v ∷ []) i
        >>= (λ new. set_local n new)))
    augment_same c (Attribute a name) o e = λ i.
        value_same c a i
        >>= (λ x. operate_holding_same (x ∷ []) (x ∷ []) c (row.Attr name) (x ∷ []) i
        >>= (λ old. holding (x ∷ old ∷ []) (value_same c e i)
        >>= (λ v. holding (x ∷ []) (perform_same c o (old ∷ v ∷ []) i)
        >>= (λ new. perform_same c (row.StoreAttr name) (x ∷ new ∷ []) i >> pure tt))))
    augment_same c (Item a b) o e = λ i.
        value_same c a i
        >>= (λ x. holding (x ∷ []) (value_same c b i)
        >>= (λ y. operate_holding_same (x ∷ y ∷ []) (x ∷ y ∷ []) c (row.Index None) (x ∷ y ∷ []) i
        >>= (λ old. holding (x ∷ y ∷ old ∷ []) (value_same c e i)
        >>= (λ v. holding (x ∷ y ∷ []) (perform_same c o (old ∷ v ∷ []) i)
        >>= (λ new. perform_same c row.StoreIndex (x ∷ y ∷ new ∷ []) i >> pure tt)))))
    augment_same c (Parts ts) o e = refl

    -- ---- statements

    loop_same : (test test' : Eval Bool) (body body' rest rest' : Eval Flow) → test' ≡ test → body' ≡ body → rest' ≡ rest
        → loop (uncopied p) W prev' test' body' rest' ≡ loop p W prev test body rest
    loop_same test test' body body' rest rest' t b r = λ i.
        t i >>= (λ go. if go then (perform_same no_covers row.Turn [] i >> (b i >>= (λ flow. after_turn flow (r i)))) else pure Next)

    items_same : (c : Covers) (target : Target) (body : Block) (walking : Walking)
        → block (uncopied p) W prev' c (uncopied_block body) ≡ block p W prev c body
        → turns (uncopied p) W prev' (each_item (uncopied p) W prev' (bind (uncopied p) W prev' c (uncopied_target target)) (block (uncopied p) W prev' c (uncopied_block body))) (λ rest. prev' (Turns c (uncopied_target target) (uncopied_block body) rest)) walking
        ≡ turns p W prev (each_item p W prev (bind p W prev c target) (block p W prev c body)) (λ rest. prev (Turns c target body rest)) walking
    items_same c target body walking b =
        turns_same _ _ _ _ (λ i v. holding (v ∷ []) (bind_same c target i v) >> b i) (λ i rest. below (Turns c target body rest) i) walking

    mutual
      statement_same : (c : Covers) (s : Stmt) → statement (uncopied p) W prev' c (uncopied_stmt s) ≡ statement p W prev c s
      statement_same c Pass = refl
      statement_same c Break = refl
      statement_same c Continue = refl
      statement_same c (Return e) = λ i. value_same c e i >>= (λ v. pure (Returned v))
      statement_same c (Do e) = λ i. value_same c e i >> pure Next
      statement_same c (Assign ts e) = λ i. value_same c e i >>= (λ v. holding (v ∷ []) (assign_same c ts v i) >> pure Next)
      statement_same c (Augment t o e) = λ i. augment_same c t o e i >> pure Next
      statement_same c (If e a b) = λ i.
          (value_same c e i >>= is_so) >>= (λ go. if go then block_same c a i else block_same c b i)
      statement_same c (While e body) =
          loop_same _ _ _ _ _ _ (λ i. value_same c e i >>= is_so) (block_same c body) (below (Loop c e body))
      statement_same c (For target subject body) = λ i.
          begin_same c subject i >>= (λ walking. items_same c target body walking (block_same c body) i)
      statement_same c (Try body clauses other) =
          (λ i s. tried (uncopied p) W prev' (block (uncopied p) W prev' (covers_same p.classes clauses c i) (uncopied_block body) s) (block (uncopied p) W prev' c (uncopied_block other)) (handle (uncopied p) W prev' c (uncopied_clauses clauses)))
          ∙ (λ i s. tried_same p prev prev' (block_same (covers_within p.classes clauses c) body i s) (block_same c other i) (λ r. handle_same c clauses r i) i)
      statement_same c (Finally body last) = λ i s. finally (block_same c last i) (block_same c body i s)

      block_same : (c : Covers) (b : Block) → block (uncopied p) W prev' c (uncopied_block b) ≡ block p W prev c b
      block_same c done = refl
      block_same c (line s rest) = λ i. statement_same c s i >>= (λ flow. next_or flow (block_same c rest i))

      handle_same : (c : Covers) (cs : Clauses) (r : ℕ) → handle (uncopied p) W prev' c (uncopied_clauses cs) r ≡ handle p W prev c cs r
      handle_same c no_clauses r = refl
      handle_same c (clause classes name body rest) r = λ i s.
          (if takes p.classes classes (class_in s.world r) then set_local_if_any name (Ref r) >> block_same c body i else handle_same c rest r i) s

    task_same : (t : Task) → task (uncopied p) W prev' (uncopied_task t) ≡ task p W prev t
    task_same (Body b) = block_same no_covers b
    task_same (Loop c e body) = loop_same _ _ _ _ _ _ (λ i. value_same c e i >>= is_so) (block_same c body) (below (Loop c e body))
    task_same (Turns c target body walking) = items_same c target body walking (block_same c body)
    task_same (Gather c item target condition list walking) = gathers_same c item target condition list walking (bind_same c target) (keeps_same c condition) (value_same c item)

  -- ---- whole programs

  within_same : (p : Program) (n : ℕ) (t : Task) → within (uncopied p) W n (uncopied_task t) ≡ within p W n t
  within_same p zero t = task_same p (λ asked. wrong) (λ asked. wrong) (λ asked. refl) t
  within_same p (suc n) t = task_same p (within p W n) (within (uncopied p) W n) (within_same p n) t

  ended_same : (p : Program) (e : Ending Value) → ended (uncopied p) e ≡ ended p e
  ended_same p (Done v s) = refl
  ended_same p (Raised r s) = refl
  ended_same p (Failed name s) = refl
  ended_same p (Running held s) = refl
  ended_same p Wrong = refl

  run_same : (p : Program) (args : List (List ℕ)) (n m : ℕ) → run (uncopied p) W args n m ≡ run p W args n m
  run_same p args n m =
      ended_same p (called (uncopied p) W (within (uncopied p) W n) (slice_get (map uncopied_function p.functions) p.entry) (Ref (length (prebuilt p)) ∷ []) None (start p args n m))
      ∙ ap (λ (e : Eval Value). ended p (e (start p args n m))) (called_same p (within p W n) (within (uncopied p) W n) (within_same p n) p.entry (Ref (length (prebuilt p)) ∷ []) None)

-- ---- as they end, and at each moment

pub mean_same : (p : Program) (args : List (List ℕ)) (n : ℕ) → mean (uncopied p) args n ≡ mean p args n
mean_same p args n = run_same unwatched (record { before = λ vs. refl; behind = λ vs. refl }) p args n 0

pub moment_same : (p : Program) (args : List (List ℕ)) (n m : ℕ) → moment (uncopied p) args n m ≡ moment p args n m
moment_same p args n m = run_same stopping (record { before = λ vs. refl; behind = λ vs. refl }) p args n m
