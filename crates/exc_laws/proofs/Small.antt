-- Where few references stand in the states of the program, few stand in those of the explicit program.
use Rattle.std.proofs.Common.{◌≡◌, ◌<◌, ◌≤◌, ℕ, suc, ◌+◌, Bool, true, false, List, [], ◌∷◌, ◌++◌, length, Option, Some, None, refl, sym, ap, ◌∙◌, subst, arith}
use Rattle.std.specs.Prelude.{slice_get, cond, option_map}
use Rattle.std.proofs.lemmas.Option.{slice_get_within}
use Rattle.csub_tree.specs.State.{Value, Block, Core}
use Rattle.ll_code.specs.State.{Frame, State, Calling, At, Returning, Throwing}
use Rattle.ll_code.specs.Machine.{start}
use Rattle.ll_code.specs.Typed.{IsWellTyped, graph_ok, params_ok, is_type_given}
use Rattle.ll_code.specs.declared.program.LlStage.TheVariants as stage
use Rattle.ll_code.specs.declared.program.LlType.{LlType}
use Rattle.ll_code.specs.declared.program.LlGraph.{LlGraph}
use Rattle.ll_code.specs.declared.program.LlProgram.{LlProgram}
use Rattle.ll_laws.specs.States.{StateFits}
use Rattle.ll_laws.proofs.Values.{and_left, and_right, is_same}
use Rattle.ll_laws.proofs.Runs.{whole_run_fits}
use Rattle.ll_live.specs.Live.{live as reads_on}
use Rattle.ll_held.specs.Roots.{kept, waiting_roots, slots, roots, core_of}
use Rattle.ll_held.specs.Held.{is_reference, references, references_in, AllHeld, Held, IsBelow}
use Rattle.ll_held.specs.Quiet.{frames_of}
use Rattle.ll_held.proofs.Keeping.{references_append}
use Rattle.exc_transform.specs.Explicit.{graphs_calm}
use Rattle.exc_transform.specs.Raising.{raises_within}
use Rattle.exc_transform.specs.Pieces.{explicit, graph_of, graphs_of, test_types}
use Rattle.exc_laws.specs.Ready.{marks_of, any_of, exceptions_of}
use Rattle.exc_laws.specs.Stands.{explicit_graph}
use Rattle.exc_laws.specs.Alike.{Allows}
use Rattle.exc_laws.specs.Holds.{HoldsNoMore, Found, AreApartOn, IsSmallOn, HasFewVariables}
use Rattle.exc_laws.proofs.Tests.{length_both, get_map}
use Rattle.exc_laws.proofs.WellTyped.{explicit_typed}
use Rattle.exc_laws.proofs.Jumps.{graph_at}
use Rattle.exc_laws.proofs.Holds.{holds_no_more}

-- ---- lists

few_references : (xs : List Value) → references xs ≤ length xs
few_references [] = omega arith
few_references (x ∷ xs) = one (is_reference x) (few_references xs)
  where
    one : (b : Bool) → references xs ≤ length xs → cond b (suc (references xs)) (references xs) ≤ suc (length xs)
    one true h = omega (arith, h)
    one false h = omega (arith, h)

few_kept : (uses : ℕ → Bool) (n : ℕ) (xs : List Value) → length (kept uses n xs) ≤ length xs
few_kept uses n [] = omega arith
few_kept uses n (x ∷ xs) = one (uses n) (few_kept uses (suc n) xs)
  where
    one : (b : Bool) → length (kept uses (suc n) xs) ≤ length xs → length (cond b (x ∷ kept uses (suc n) xs) (kept uses (suc n) xs)) ≤ suc (length xs)
    one true h = omega (arith, h)
    one false h = omega (arith, h)

params_within : (p : LlProgram) (types : List LlType) (n : ℕ) (vs : List ℕ) → params_ok p types n vs ≡ true → n ≤ length types → n + length vs ≤ length types
params_within p types n [] h le = omega (arith, le)
params_within p types n (v ∷ vs) h le =
    let same : v ≡ n = is_same v n (and_left _ _ (and_left _ _ h)) in
    let lt : v < length types = typed (slice_get types v) refl (and_right _ _ (and_left _ _ h)) in
    let more : n + 1 + length vs ≤ length types = params_within p types (n + 1) vs (and_right _ _ h) (omega (arith, same, lt)) in
    omega (arith, more)
  where
    typed : (o : Option LlType) → slice_get types v ≡ o → is_type_given p.structs o ≡ true → v < length types
    typed None e h = absurd (cc)
    typed (Some t) e h = slice_get_within types v t e

-- ---- graphs

few_types : (p : LlProgram) (most : ℕ) → HasFewVariables most p → (f : ℕ) (g : LlGraph) → slice_get (explicit p).graphs f ≡ Some g → length g.types < most + 2
few_types p most few f g e = one (graphs_calm p.graphs) e
  where
    two : (b : Bool) (g : LlGraph) → length (test_types (exceptions_of p) b) ≤ 2
    two true g = omega arith
    two false g = omega arith

    made : (o : Option LlGraph) → slice_get p.graphs f ≡ o → option_map (graph_of (exceptions_of p) (marks_of p)) o ≡ Some g → length g.types < most + 2
    made None i e = absurd (cc)
    made (Some h) i e =
        let k : explicit_graph p h ≡ g = cc in
        let a : length (h.types ++ test_types (exceptions_of p) (raises_within (marks_of p) (any_of p) h.blocks)) ≡ length h.types + length (test_types (exceptions_of p) (raises_within (marks_of p) (any_of p) h.blocks)) =
        length_both h.types (test_types (exceptions_of p) (raises_within (marks_of p) (any_of p) h.blocks)) in
        let b : length (test_types (exceptions_of p) (raises_within (marks_of p) (any_of p) h.blocks)) ≤ 2 = two (raises_within (marks_of p) (any_of p) h.blocks) h in
        let c : length h.types < most = few f h i in
        subst (λ (g : LlGraph). length g.types < most + 2) k (omega (arith, a, b, c))

    one : (b : Bool) → slice_get (cond b p.graphs (graphs_of p.structs p.graphs)) f ≡ Some g → length g.types < most + 2
    one true e = let c : length g.types < most = few f g e in omega (arith, c)
    one false e = made (slice_get p.graphs f) refl (sym (get_map (graph_of (exceptions_of p) (marks_of p)) p.graphs f) ∙ e)

-- ---- the references that a graph itself holds

module _ (q : LlProgram) (ok : IsWellTyped q) (most : ℕ) (few : (f : ℕ) (g : LlGraph) → slice_get q.graphs f ≡ Some g → length g.types < most) where
  own_references : (own : List Value) (core : Core) (frames : List Frame) → length own < most + 2 → references ((own ++ slots core) ++ waiting_roots q frames) < most + 4 + references (waiting_roots q frames)
  own_references own core frames lt =
      let a : references ((own ++ slots core) ++ waiting_roots q frames) ≡ references (own ++ slots core) + references (waiting_roots q frames) = references_append (own ++ slots core) (waiting_roots q frames) in
      let b : references (own ++ slots core) ≡ references own + references (slots core) = references_append own (slots core) in
      let c : references own ≤ length own = few_references own in
      let d : references (slots core) ≤ 2 = few_references (slots core) in
      omega (arith, a, b, c, d, lt)

  own_few : (s : State) → StateFits q s → references (roots q s) < most + 4 + references (waiting_roots q (frames_of s))
  own_few (Calling f values frames core) (graph, fit) =
      let fine : graph_ok q graph ≡ true = graph_at q q.graphs f graph (and_right _ _ (and_left _ _ ok)) fit.of in
      let a : 0 + length graph.params ≤ length graph.types = params_within q graph.types 0 graph.params (and_right _ _ (and_left _ _ (and_left _ _ fine))) (omega arith) in
      let b : length graph.types < most = few f graph fit.of in
      let c : length values ≡ length graph.params = fit.count in
      own_references values core frames (omega (arith, a, b, c))
  own_few (At ops e frames core) (graph, fit) =
      let a : length (kept (reads_on ops e) 0 core.vars) ≤ length core.vars = few_kept (reads_on ops e) 0 core.vars in
      let b : length core.vars ≡ length graph.types = fit.fits.vars.count in
      let c : length graph.types < most = few core.function graph fit.of in
      own_references (kept (reads_on ops e) 0 core.vars) core frames (omega (arith, a, b, c))
  own_few (Returning value frames core) fit = own_references (value ∷ []) core frames (omega arith)
  own_few (Throwing value frames core) fit = own_references (value ∷ []) core frames (omega arith)

-- ---- where no more is held

all_held : (blocks more : List (Option Block)) (roots wider : List Value) → ((b : ℕ) → Held blocks roots b → Held more wider b) → (bs : List ℕ) → AllHeld blocks roots bs → AllHeld more wider bs
all_held blocks more roots wider h [] k = tt
all_held blocks more roots wider h (b ∷ bs) (k, ks) = (h b k, all_held blocks more roots wider h bs ks)

waiting_within : (p : LlProgram) (s : State) → references (waiting_roots p (frames_of s)) ≤ references (roots p s)
waiting_within p (Calling f values frames core) = let a : references ((values ++ slots core) ++ waiting_roots p frames) ≡ references (values ++ slots core) + references (waiting_roots p frames) = references_append (values ++ slots core) (waiting_roots p frames) in omega (arith, a)
waiting_within p (At ops e frames core) =
    let a : references ((kept (reads_on ops e) 0 core.vars ++ slots core) ++ waiting_roots p frames) ≡ references (kept (reads_on ops e) 0 core.vars ++ slots core) + references (waiting_roots p frames) =
    references_append (kept (reads_on ops e) 0 core.vars ++ slots core) (waiting_roots p frames) in
    omega (arith, a)
waiting_within p (Returning value frames core) = let a : references ((value ∷ slots core) ++ waiting_roots p frames) ≡ references (value ∷ slots core) + references (waiting_roots p frames) = references_append (value ∷ slots core) (waiting_roots p frames) in omega (arith, a)
waiting_within p (Throwing value frames core) = let a : references ((value ∷ slots core) ++ waiting_roots p frames) ≡ references (value ∷ slots core) + references (waiting_roots p frames) = references_append (value ∷ slots core) (waiting_roots p frames) in omega (arith, a)

small_on : (p : LlProgram) (s x : State) (most few : ℕ) → HoldsNoMore p s x → references (roots (explicit p) x) < few + 6 + references (waiting_roots (explicit p) (frames_of x)) → IsBelow most (core_of s).blocks (roots p s) → IsBelow (most + few + 6) (core_of x).blocks (roots (explicit p) x)
small_on p s x most few holds own small bs distinct held =
    let a : references (roots p s) + references_in (core_of s).blocks bs < most = small bs distinct (all_held (core_of x).blocks (core_of s).blocks (roots (explicit p) x) (roots p s) holds.held bs held) in
    let b : references_in (core_of x).blocks bs ≡ references_in (core_of s).blocks bs = ap (λ blocks. references_in blocks bs) holds.blocks in
    let c : references (waiting_roots p (frames_of s)) ≤ references (roots p s) = waiting_within p s in
    let d : references (waiting_roots (explicit p) (frames_of x)) ≤ references (waiting_roots p (frames_of s)) = holds.waiting in
    omega (arith, a, b, c, d, own)

pub stay_small : (p : LlProgram) → IsWellTyped p → p.stage ≡ stage.Raw → (args : List (List ℕ)) (steps : ℕ) → Allows p args steps → AreApartOn p args steps → (most few : ℕ) → IsSmallOn most p args steps → HasFewVariables few p → IsSmallOn (most + few + 6) (explicit p) args steps
stay_small p ok raw args steps allows apart most few small has k x text events e = on (holds_no_more p ok raw args steps allows apart k x text events e)
  where
    fits : StateFits (explicit p) x
    fits = subst (Rattle.ll_laws.specs.States.RanFits (explicit p)) e (whole_run_fits (explicit p) (explicit_typed p ok raw) args steps k)

    on : Found p args (start p steps) [] [] x text events → IsBelow (most + few + 6) (core_of x).blocks (roots (explicit p) x)
    on f =
        let own : references (roots (explicit p) x) < few + 2 + 4 + references (waiting_roots (explicit p) (frames_of x)) = own_few (explicit p) (explicit_typed p ok raw) (few + 2) (few_types p few has) x fits in
        small_on p f.state x most few f.holds (omega (arith, own)) (small f.count f.state text events f.ran)
