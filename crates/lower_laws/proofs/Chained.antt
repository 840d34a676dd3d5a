-- What is done first, and then a helper: the laws of helpers are laws of all that is written.
use Rattle.std.proofs.Common.{◌≡◌, ◌<◌, ◌≤◌, ℕ, zero, suc, ◌+◌, ◌⊎◌, inl, inr, true, false, List, [], ◌∷◌, ◌++◌, length, map, Option, Some, refl, ap, ◌∙◌, arith}
use Rattle.std.specs.Prelude.{drop, slice_set, not, ◌&&◌}
use Rattle.std.proofs.lemmas.Bool.Decides.{nat_tests}
use Rattle.std.proofs.lemmas.List.{get_or-set_other, length-map, length-set}
use Rattle.csub_tree.specs.State.{Value, Static, Ptr, Block, Core}
use Rattle.csub_tree.specs.Statement.{read}
use Rattle.csub_tree.specs.declared.tree.COperand.{COperand}
use Rattle.rpy_tree.specs.Value.{Value as Meant}
use Rattle.rpy_meaning.specs.World.{World, Answer, Gives, Throws, Fails, Lacks, Enters, Bad}
use Rattle.ll_code.specs.State.{Frame, State, At}
use Rattle.ll_code.specs.declared.program.LlType.{LlType}
use Rattle.ll_code.specs.declared.program.LlOp.{LlOp}
use Rattle.ll_code.specs.declared.program.LlOp.TheVariants as op
use Rattle.ll_code.specs.declared.program.LlExit.{LlExit}
use Rattle.ll_code.specs.declared.program.LlProgram.{LlProgram}
use Rattle.ll_live.specs.Live.{among, live, sets, variables_in}
use Rattle.ll_held.specs.Held.{times}
use Rattle.ll_held.specs.Places.{IsPlaced}
use Rattle.ll_held.specs.Roots.{kept, waiting_roots, slots, roots}
use Rattle.ll_held.proofs.Keeping.{in_parts, in_first, in_second, used_from, used_to, set_read, or_right}
use Rattle.ll_leads.specs.Memory.{forgotten}
use Rattle.ll_leads.specs.Path.{Leads}
use Rattle.ll_leads.proofs.Joined.{leads_then, leads_more}
use Rattle.ll_leads.proofs.Ways.{on, rests}
use Rattle.ll_texts.specs.Follows.{text_blocks}
use Rattle.ll_texts.specs.Stands.{Stands}
use Rattle.ll_texts.specs.Texts.{text_block}
use Rattle.rtyper_data.specs.Seen.{Around, Place}
use Rattle.lower_laws.specs.Done.{Follows}
use Rattle.lower_laws.specs.Helped.{Follows as HelpFollows}
use Rattle.lower_laws.specs.Values.{Holds}

-- ---- what leads to other operations of the block

-- Some operations are done: nothing is changed but variables behind the first so many, and no more is held.
pub record Reached (p : LlProgram) (args : List (List ℕ)) (s : State) (ops : List LlOp) (e : LlExit) (frames : List Frame) (core mid : Core) (below : ℕ) : Type 0 where
  pub leads : Leads p args 0 s [] (At ops e frames mid)
  pub memory : forgotten mid ≡ forgotten core
  pub others : (n : ℕ) → n < below → read mid.vars n ≡ read core.vars n
  pub room : length mid.vars ≡ length core.vars
  pub function : mid.function ≡ core.function
  pub block : mid.block ≡ core.block
  pub placed : IsPlaced p s → IsPlaced p (At ops e frames mid)
  pub holds : (b : ℕ) → 0 < times b (roots p (At ops e frames mid)) → 0 < times b (roots p s)

pub here : {p : LlProgram} {args : List (List ℕ)} {ops : List LlOp} {e : LlExit} {frames : List Frame} {core : Core} {below : ℕ} → Reached p args (At ops e frames core) ops e frames core core below
here = record { leads = rests; memory = refl; others = λ n under. refl; room = refl; function = refl; block = refl; placed = λ h. h; holds = λ b h. h }

pub further : {p : LlProgram} {args : List (List ℕ)} {s : State} {ops more : List LlOp} {e : LlExit} {frames : List Frame} {core mid end : Core} {below above : ℕ} → below ≤ above → Reached p args s ops e frames core mid below → Reached p args (At ops e frames mid) more e frames mid end above → Reached p args s more e frames core end below
further h a b = record {
  leads = on a.leads b.leads;
  memory = b.memory ∙ a.memory;
  others = λ n under. b.others n (omega (arith, under, h)) ∙ a.others n under;
  room = b.room ∙ a.room;
  function = b.function ∙ a.function;
  block = b.block ∙ a.block;
  placed = λ placed. b.placed (a.placed placed);
  holds = λ block h. a.holds block (b.holds block h);
}

-- ---- a helper behind that

blocks_are : (texts : List (List ℕ)) → text_blocks texts ≡ map Some (map text_block texts)
blocks_are [] = refl
blocks_are (bytes ∷ texts) = ap (λ bs. Some (text_block bytes) ∷ bs) (blocks_are texts)

module _ (around : Around) (place : Place) (p : LlProgram) (args : List (List ℕ)) (s : State) (ops rest : List LlOp) (e : LlExit) (frames : List Frame) (core mid : Core) (raised : ℕ → Value) (most below : ℕ) (w : World) (t : LlType)
    (reached : Reached p args s ops e frames core mid below) (fine : (blocks : List (Option Block)) (statics : List Block) (x : Value) (v : Meant) → Stands blocks statics t x v → Holds around.layout blocks statics place.element x v) where
  pub chained : (answer : Answer) → HelpFollows p args (At ops e frames mid) rest e frames mid t place.variable below w answer → Follows around place p args s rest e frames core raised most below w answer
  chained (Gives v w') c = record {
    end = c.end;
    text = c.text;
    leads = leads_more 0 most (omega arith) (on reached.leads c.leads);
    made = map text_block c.texts;
    few = (let l : length (map text_block c.texts) ≡ length c.texts = length-map c.texts text_block in let few : length c.texts ≤ 1 = c.few in omega (arith, l, few));
    memory = c.memory ∙ ap (λ (m : Core). record m { blocks = m.blocks ++ text_blocks c.texts; steps = w'.left }) reached.memory ∙ ap (λ bs. forgotten (record core { blocks = core.blocks ++ bs; steps = w'.left })) (blocks_are c.texts);
    holds = fine c.end.blocks c.end.statics (read c.end.vars place.variable) v c.stands;
    others = λ n under other. c.others n under other ∙ reached.others n under;
    room = c.room ∙ reached.room;
    function = c.function ∙ reached.function;
    block = c.block ∙ reached.block;
    out = c.out;
    heap = c.heap;
  }
  chained (Throws exception w') c = absurd c
  chained (Fails name) c = record { last = c.last; leads = on reached.leads c.leads; ends = c.ends }
  chained Lacks c = record { last = c.last; leads = on reached.leads c.leads; ends = c.ends; blocks = c.blocks ∙ ap (λ (m : Core). m.blocks) reached.memory; holds = λ placed b h. reached.holds b (c.holds (reached.placed placed) b h) }
  chained (Enters function values instead w') c = absurd c
  chained Bad c = tt

-- ---- anything behind that

module _ (around : Around) (place : Place) (p : LlProgram) (args : List (List ℕ)) (s : State) (ops rest : List LlOp) (e : LlExit) (frames : List Frame) (core mid : Core) (raised : ℕ → Value) (most below : ℕ) (w : World) (reached : Reached p args s ops e frames core mid below) where
  pub done_behind : (answer : Answer) → Follows around place p args (At ops e frames mid) rest e frames mid raised most below w answer → Follows around place p args s rest e frames core raised most below w answer
  done_behind (Gives v w') c = record {
    end = c.end;
    text = c.text;
    leads = leads_more (0 + most) most (omega arith) (leads_then reached.leads c.leads);
    made = c.made;
    few = c.few;
    memory = c.memory ∙ ap (λ (m : Core). record m { blocks = m.blocks ++ map Some c.made; steps = w'.left }) reached.memory;
    holds = c.holds;
    others = λ n under other. c.others n under other ∙ reached.others n under;
    room = c.room ∙ reached.room;
    function = c.function ∙ reached.function;
    block = c.block ∙ reached.block;
    out = c.out;
    heap = c.heap;
  }
  done_behind (Throws exception w') c = record {
    frame = c.frame;
    end = c.end;
    leads = on reached.leads c.leads;
    memory = c.memory ∙ reached.memory;
    left = c.left;
    ops = c.ops;
    exit = c.exit;
    others = λ n under. c.others n under ∙ reached.others n under;
    room = c.room ∙ reached.room;
    function = c.function ∙ reached.function;
    block = c.block ∙ reached.block;
    same = c.same;
  }
  done_behind (Fails name) c = record { last = c.last; leads = on reached.leads c.leads; ends = c.ends }
  done_behind Lacks c = record { last = c.last; leads = on reached.leads c.leads; ends = c.ends; blocks = c.blocks ∙ ap (λ (m : Core). m.blocks) reached.memory; holds = λ placed b h. reached.holds b (c.holds (reached.placed placed) b h) }
  done_behind (Enters function values instead w') c = absurd c
  done_behind Bad c = tt

-- ---- a call whose result is a static

one_less : {A : Type 0} (xs : List A) (n : ℕ) (x : A) (ys : List A) → drop n xs ≡ x ∷ ys → drop (n + 1) xs ≡ ys
one_less [] zero x ys h = absurd (cc)
one_less [] (suc n) x ys h = absurd (cc)
one_less (z ∷ xs) zero x ys h = cc
one_less (z ∷ xs) (suc n) x ys h = (let e : suc n + 1 ≡ suc (n + 1) = omega arith in ap (λ k. drop k (z ∷ xs)) e ∙ one_less xs n x ys h)

module _ (p : LlProgram) (args : List (List ℕ)) (m f : ℕ) (xs : List COperand) (ops : List LlOp) (e : LlExit) (frames : List Frame) (core : Core) (g : ℕ) where
  abbrev Call : List LlOp
  Call = op.Call (Some m) f xs ∷ ops

  abbrev next : Core
  next = record core { at = core.at + 1; vars = slice_set core.vars m (Static g) }

  -- a variable that names a block did so before
  same_variable : (v b : ℕ) → live ops e v ≡ true → read next.vars v ≡ Ptr b → (live Call e v ≡ true) × (read core.vars v ≡ Ptr b)
  same_variable v b l r = one (set_read core.vars m v b (Static g) r)
    where
      apart : ((m ≡ v) → ⊥) → sets (Some m) v ≡ false
      apart n = grind (arith, nat_tests, n)

      one : ((m ≡ v) × (Static g ≡ Ptr b)) ⊎ (((m ≡ v) → ⊥) × (read core.vars v ≡ Ptr b)) → (live Call e v ≡ true) × (read core.vars v ≡ Ptr b)
      one (inl h) = (let q = h.1 in absurd (cc))
      one (inr h) = (or_right (among v (variables_in xs)) (not (sets (Some m) v) && live ops e v) (ap (λ c. not c && live ops e v) (apart h.0) ∙ l), h.1)

  static_holds : (b : ℕ) → 0 < times b (roots p (At ops e frames next)) → 0 < times b (roots p (At Call e frames core))
  static_holds b h = outer (in_parts b (kept (live ops e) 0 next.vars ++ slots next) (waiting_roots p frames) h)
    where
      inner : (0 < times b (kept (live ops e) 0 next.vars)) ⊎ (0 < times b (slots next)) → 0 < times b (roots p (At Call e frames core))
      inner (inl k) =
          let u = used_from (live ops e) next.vars b k in
          let s = same_variable u.0 b u.1 u.2 in
          in_first b (kept (live Call e) 0 core.vars ++ slots core) (waiting_roots p frames) (in_first b (kept (live Call e) 0 core.vars) (slots core) (used_to (live Call e) core.vars b u.0 s.0 s.1))
      inner (inr k) = in_first b (kept (live Call e) 0 core.vars ++ slots core) (waiting_roots p frames) (in_second b (kept (live Call e) 0 core.vars) (slots core) k)

      outer : (0 < times b (kept (live ops e) 0 next.vars ++ slots next)) ⊎ (0 < times b (waiting_roots p frames)) → 0 < times b (roots p (At Call e frames core))
      outer (inl k) = inner (in_parts b (kept (live ops e) 0 next.vars) (slots next) k)
      outer (inr k) = in_second b (kept (live Call e) 0 core.vars ++ slots core) (waiting_roots p frames) k

  static_placed : IsPlaced p (At Call e frames core) → IsPlaced p (At ops e frames next)
  static_placed h = (record { block = h.0.block; of = h.0.of; left = one_less h.0.block.ops core.at (op.Call (Some m) f xs) ops h.0.left; end = h.0.end }, h.1)

  pub static_reached : {below : ℕ} → below ≤ m → Leads p args 0 (At Call e frames core) [] (At ops e frames next) → Reached p args (At Call e frames core) ops e frames core next below
  static_reached h l = record {
    leads = l;
    memory = refl;
    others = λ n under. get_or-set_other core.vars m n (Static g) _ (λ same. absurd (omega (arith, h, under, same)));
    room = length-set core.vars m (Static g);
    function = refl;
    block = refl;
    placed = static_placed;
    holds = static_holds;
  }
