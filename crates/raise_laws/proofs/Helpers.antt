-- Calls of helpers that raise.
use Rattle.std.proofs.Common.{◌≡◌, ◌<◌, ◌⊎◌, inl, inr, ℕ, List, [], ◌++◌, Option, Some, None, refl, sym, ap, ◌∙◌, subst, arith}
use Rattle.std.specs.Prelude.{slice_get}
use Rattle.rtyper_raising.specs.Raising.{raising_graph}
use Rattle.rpy_base.specs.declared.outcome.FailName.{FailName}
use Rattle.rpy_base.specs.declared.outcome.FailName.TheVariants as fail
use Rattle.csub_tree.specs.State.{Value, Core}
use Rattle.ll_code.specs.State.{Frame, State, Calling}
use Rattle.ll_code.specs.declared.program.LlType.{LlType}
use Rattle.ll_code.specs.declared.program.LlProgram.{LlProgram}
use Rattle.ll_build.specs.declared.needs.Helper.{Helper}
use Rattle.ll_build.specs.declared.needs.Numbers.{Numbers}
use Rattle.ll_helpers.specs.Helpers.{graph_for}
use Rattle.ll_held.specs.Held.{times}
use Rattle.ll_held.specs.Roots.{roots, slots, waiting_roots}
use Rattle.ll_held.proofs.Keeping.{in_parts, in_first, in_second}
use Rattle.ll_texts.specs.Follows as plain
use Rattle.rpy_meaning.specs.declared.row.Covers.{Covers}
use Rattle.rpy_meaning.specs.World.{World, Answer, Gives, Throws, Fails, Lacks, Enters, Bad}
use Rattle.rtyper_data.specs.Finding.{nothing, failures_of}
use Rattle.raise_laws.specs.Helpers.{Follows, RaisingHelpersFollow, thrown_or, with_raised}
use Rattle.raise_laws.specs.Raising.{IsRaising, RaisedOr, class_named, with_graph}
use Rattle.raise_laws.proofs.Calling.{Fits, fits, graphs_apart, has_plain, is_raising}
use Rattle.raise_laws.proofs.Following.{calls_lack, calls_raise, calls_return}
use Rattle.raise_laws.proofs.Nothing.{graph_plain}

module _ (p : LlProgram) (numbers : Numbers) (raised : ℕ → Value) (h : Helper) (covers : Covers) (f : ℕ) (core : Core) (r : IsRaising p raised covers f (graph_for numbers h)) (args : List (List ℕ)) (values : List Value) (frames : List Frame) (t : LlType) (w : World) where
  -- what is held where steps lack
  held : (last : List Value) (b : ℕ) → (0 < times b last → 0 < times b (roots (with_graph p f (graph_for numbers h)) (Calling f values [] core))) → 0 < times b (last ++ waiting_roots p frames) → 0 < times b (roots p (Calling f values frames core))
  held last b holds k = by (in_parts b last (waiting_roots p frames) k)
    where
      own : (0 < times b (values ++ slots core)) ⊎ (0 < times b []) → 0 < times b (roots p (Calling f values frames core))
      own (inl k) = in_first b (values ++ slots core) (waiting_roots p frames) k
      own (inr k) = absurd (omega (arith, k))

      by : (0 < times b last) ⊎ (0 < times b (waiting_roots p frames)) → 0 < times b (roots p (Calling f values frames core))
      by (inl k) = own (in_parts b (values ++ slots core) [] (holds k))
      by (inr k) = in_second b (values ++ slots core) (waiting_roots p frames) k

  -- what fails plainly
  failed : (name : FailName) (o : Option ℕ) → RaisedOr p args raised 0 (Calling f values frames core) [] name frames core o → Follows p args (Calling f values frames core) frames core raised t w (thrown_or name w o)
  failed name None it = record { last = it.last; leads = it.leads; ends = it.ends }
  failed name (Some class) it = record { end = it.end; leads = it.leads; memory = it.memory; same = refl }

  by : (answer : Answer) → plain.Follows (with_graph p f (graph_for numbers h)) args (Calling f values [] core) [] core t w answer → Follows p args (Calling f values frames core) frames core raised t w (with_raised covers w answer)
  by (Gives v w') g = record {
    value = g.value;
    end = g.end;
    text = g.text;
    leads = calls_return p raised covers f (graph_for numbers h) r args 0 values frames core g.text g.value g.end g.leads;
    texts = g.texts;
    few = g.few;
    memory = g.memory;
    stands = g.stands;
    out = g.out;
    heap = g.heap;
  }
  by (Throws exception w') g = absurd g
  by (Fails name) g = failed name (class_named name covers) (calls_raise p raised covers f (graph_for numbers h) r args 0 values frames core [] g.last name g.leads g.ends)
  by Lacks g =
      let it = calls_lack p raised covers f (graph_for numbers h) r args 0 values frames core [] g.last g.leads g.ends in
      record {
        last = it.last;
        leads = it.leads;
        ends = it.ends;
        blocks = ap (λ (c : Core). c.blocks) it.core ∙ g.blocks;
        holds = λ b k. held (roots (with_graph p f (graph_for numbers h)) g.last) b (g.holds b) (subst (λ vs. 0 < times b vs) it.holds k);
      }
  by (Enters function values instead w') g = absurd g
  by Bad g = tt

no_more : (name : FailName) → class_named name nothing ≡ None
no_more fail.Index = refl
no_more fail.ZeroDivision = refl
no_more fail.Value = refl
no_more fail.Attribute = refl
no_more fail.NegativeSlice = refl

-- where nothing is covered, nothing is thrown
module _ (p : LlProgram) (args : List (List ℕ)) (s : State) (raised : ℕ → Value) (frames : List Frame) (core : Core) (t : LlType) (w : World) where
  plainly : (answer : Answer) → plain.Follows p args s frames core t w answer → Follows p args s frames core raised t w (with_raised nothing w answer)
  plainly (Gives v w') g = g
  plainly (Throws exception w') g = absurd g
  plainly (Fails name) g = subst (λ o. Follows p args s frames core raised t w (thrown_or name w o)) (sym (no_more name)) g
  plainly Lacks g = g
  plainly (Enters function values instead w') g = absurd g
  plainly Bad g = tt

pub raising_helpers_follow : RaisingHelpersFollow
raising_helpers_follow p numbers raised h c f core has args values frames t w answer law = one (fits p numbers f h (graphs_apart p numbers raised h (failures_of h c) f core has))
  where
    Goal : Type 0
    Goal = Follows p args (Calling f values frames core) frames core raised t w (with_raised (failures_of h c) w answer)

    plain_one : failures_of h c ≡ nothing → Goal
    plain_one none =
        let made = has.raising.made in
        let graph : slice_get p.graphs f ≡ Some (graph_for numbers h) = has.raising.graph ∙ ap (λ d. Some (raising_graph d (graph_for numbers h) made)) none ∙ ap (λ g. Some g) (graph_plain (graph_for numbers h) made) in
        subst (λ d. Follows p args (Calling f values frames core) frames core raised t w (with_raised d w answer)) (sym none)
        (plainly p args (Calling f values frames core) raised frames core t w answer
        (law p frames (record { graph = graph; shared = has.shared; text = has.text; statics = has.statics; small = has.small })))

    one : Fits p numbers f h ⊎ ((c : Covers) → failures_of h c ≡ nothing) → Goal
    one (inl it) =
        let r : IsRaising p raised (failures_of h c) f (graph_for numbers h) = is_raising p numbers raised h (failures_of h c) f core has it in
        by p numbers raised h (failures_of h c) f core r args values frames t w answer (law (with_graph p f (graph_for numbers h)) [] (has_plain p numbers raised h (failures_of h c) f core has))
    one (inr none) = plain_one (none c)
