-- References of the explicit program lead to roots where those of the program do.
use Rattle.std.proofs.Common.{◌≡◌, ◌<◌, ℕ, zero, suc, Bool, true, false, ◌&&◌, List, [], ◌∷◌, ◌++◌, length, map, Option, Some, None, refl, sym, ap, ◌∙◌, subst, arith}
use Rattle.std.specs.Prelude.{slice_get, cond}
use Rattle.ll_code.specs.Typed.{IsWellTyped, has_type, base_of, structs_ok, graphs_ok}
use Rattle.ll_code.specs.declared.program.LlType.{LlType}
use Rattle.ll_code.specs.declared.program.LlType.TheVariants as type
use Rattle.ll_code.specs.declared.program.LlStruct.{LlStruct}
use Rattle.ll_code.specs.declared.program.LlOp.{LlOp}
use Rattle.ll_code.specs.declared.program.LlOp.TheVariants as op
use Rattle.ll_code.specs.declared.program.LlExit.{LlExit}
use Rattle.ll_code.specs.declared.program.LlBlock.{LlBlock}
use Rattle.ll_code.specs.declared.program.LlGraph.{LlGraph}
use Rattle.ll_code.specs.declared.program.LlProgram.{LlProgram}
use Rattle.ll_laws.proofs.Values.{and_left, and_right}
use Rattle.exc_transform.specs.Explicit.{graphs_calm, kind_of, pointed, or_else}
use Rattle.exc_transform.specs.Families.{in_graphs, first_of, root_from}
use Rattle.exc_transform.specs.Raising.{raises_within}
use Rattle.exc_transform.specs.Pieces.{blocks_of, graph_of, graphs_of, explicit, test_types}
use Rattle.exc_laws.specs.Ready.{marks_of, any_of, exceptions_of}
use Rattle.exc_laws.specs.Stands.{around_in, explicit_graph}
use Rattle.exc_laws.proofs.Tests.{and_both, equals}
use Rattle.exc_laws.proofs.Kept.{kept}
use Rattle.exc_laws.proofs.Families.{graphs_within, graphs_none, root_is}
use Rattle.exc_ready.specs.Raisable.{root_of as exception_root, graph_raisable, graphs_raisable, IsRaisable}
use Rattle.exc_ready.proofs.Made.{ops_all, blocks_all, Accepts, Own, OwnAll, on_ops, graph_holds}
use Rattle.refcount_transform.specs.Plan.{Plan, plan_of, root, root_within, is_marked, where_marked, reference_to, reference_given, referred, root_of, fields_of, place_of, field_referred, items_referred}
use Rattle.refcount_laws.specs.Made.{is_root_given, all_lead, structs_lead}
use Rattle.refcount_typed.specs.Leads.{stands_in_root, op_leads, ops_lead, blocks_lead, graph_leads, graphs_lead, LeadsToRoots}
use Rattle.refcount_typed.specs.Numbered.{HasNumbers}
use Rattle.exc_counted.proofs.Less.{First, Second, if_referred, lead_less, all_lead_less, structs_lead_less, numbered_less}

module _ (p : LlProgram) (ok : IsWellTyped p) (passes : IsRaisable p) (leads : LeadsToRoots p) where
  -- ---- the struct that tells classes apart

  structs_are : structs_ok p.structs 0 p.structs ≡ true
  structs_are = and_left _ _ (and_left _ _ (and_left _ _ ok))

  graphs_are : graphs_ok p p.graphs ≡ true
  graphs_are = and_right _ _ (and_left _ _ ok)

  lead_at : (ss : List LlStruct) (n : ℕ) (s : LlStruct) → structs_lead (First p passes) ss ≡ true → slice_get ss n ≡ Some s → all_lead (First p passes) s.fields ≡ true
  lead_at [] n s h e = absurd (cc)
  lead_at (x ∷ ss) zero s h e = let f : x ≡ s = cc in subst (λ (s : LlStruct). all_lead (First p passes) s.fields ≡ true) f (and_left _ _ (and_left _ _ h))
  lead_at (x ∷ ss) (suc n) s h e = lead_at ss n s (and_right (all_lead (First p passes) x.fields && is_root_given (First p passes) (reference_given (First p passes).counted x.items)) _ h) e

  type_leads : (ts : List LlType) (k : ℕ) (t : LlType) → all_lead (First p passes) ts ≡ true → slice_get ts k ≡ Some t → is_root_given (First p passes) (reference_to (First p passes).counted t) ≡ true
  type_leads [] k t h e = absurd (cc)
  type_leads (u ∷ ts) zero t h e = let f : u ≡ t = cc in subst (λ t. is_root_given (First p passes) (reference_to (First p passes).counted t) ≡ true) f (and_left _ _ h)
  type_leads (u ∷ ts) (suc k) t h e = type_leads ts k t (and_right (is_root_given (First p passes) (reference_to (First p passes).counted u)) _ h) e

  -- a struct without a base is its own root
  own_root : (n : ℕ) → base_of (slice_get p.structs n) ≡ None → is_root_given (First p passes) (reference_to (First p passes).counted (type.Ptr n)) ≡ true
  own_root n e = one (is_marked (First p passes).counted n)
    where
      within : (times : List LlStruct) → root_within p.structs times n ≡ n
      within [] = refl
      within (t ∷ times) = ap (λ o. Rattle.refcount_transform.specs.Plan.above (root_within p.structs times) n o) e

      one : (b : Bool) → is_root_given (First p passes) (where_marked n b) ≡ true
      one true = equals (root p.structs n) n (within p.structs)
      one false = refl

  module _ (raises : graphs_calm p.graphs ≡ false) where
    root_none : base_of (slice_get p.structs (exception_root p)) ≡ None
    root_none = by (in_graphs p.graphs) refl
      where
        by : (o : Option ℕ) → in_graphs p.graphs ≡ o → base_of (slice_get p.structs (root_from p.structs (in_graphs p.graphs))) ≡ None
        by None e = absurd (let f : true ≡ false = sym (graphs_none p p.graphs graphs_are e) ∙ raises in cc)
        by (Some n) e =
            let lt : n < length p.structs = graphs_within p p.graphs graphs_are n e in
            ap (λ o. base_of (slice_get p.structs (root_from p.structs o))) e ∙ (root_is p.structs structs_are p.structs n (omega (arith, lt)) lt).0

    first_leads : (n : ℕ) (o : Option LlStruct) → slice_get p.structs (exception_root p) ≡ o → first_of o ≡ Some n → is_root_given (First p passes) (reference_to (First p passes).counted (type.Ptr n)) ≡ true
    first_leads n None e h = absurd (cc)
    first_leads n (Some s) e h = type_leads s.fields 0 (type.Ptr n) (lead_at p.structs (exception_root p) s (and_left _ _ leads) e) (is_pointer (slice_get s.fields 0) h)
      where
        is_pointer : (o : Option LlType) → pointed o ≡ Some n → o ≡ Some (type.Ptr n)
        is_pointer (Some (type.Ptr m)) h = let f : m ≡ n = cc in ap (λ m. Some (type.Ptr m)) f
        is_pointer other h = absurd (cc)

    kind_leads : is_root_given (First p passes) (reference_to (First p passes).counted (type.Ptr (kind_of (exceptions_of p)))) ≡ true
    kind_leads = by (exceptions_of p).kind refl
      where
        by : (o : Option ℕ) → (exceptions_of p).kind ≡ o → is_root_given (First p passes) (reference_to (First p passes).counted (type.Ptr (or_else (exception_root p) o))) ≡ true
        by None e = own_root (exception_root p) root_none
        by (Some n) e = first_leads n (slice_get p.structs (exception_root p)) refl e

    more_lead : (b : Bool) → all_lead (Second p passes) (test_types (exceptions_of p) b) ≡ true
    more_lead true =
        and_both (is_root_given (Second p passes) (reference_to (Second p passes).counted (type.Ptr (kind_of (exceptions_of p))))) true (lead_less p passes (Some (type.Ptr (kind_of (exceptions_of p)))) kind_leads) refl
    more_lead false = refl

    both_lead : (ts us : List LlType) → all_lead (Second p passes) ts ≡ true → all_lead (Second p passes) us ≡ true → all_lead (Second p passes) (ts ++ us) ≡ true
    both_lead [] us h k = k
    both_lead (t ∷ ts) us h k =
        and_both (is_root_given (Second p passes) (reference_to (Second p passes).counted t)) (all_lead (Second p passes) (ts ++ us)) (and_left _ _ h) (both_lead ts us (and_right (is_root_given (Second p passes) (reference_to (Second p passes).counted t)) _ h) k)

    -- ---- operations

    abbrev Any : List LlOp → LlExit → Type 0
    Any ops e = Unit {0}

    any_next : (o : LlOp) (ops : List LlOp) (e : LlExit) → Any (o ∷ ops) e → Any ops e
    any_next o ops e h = tt

    module _ (g : LlGraph) where
      abbrev Types : List LlType
      Types = g.types ++ test_types (exceptions_of p) (raises_within (marks_of p) (any_of p) g.blocks)

      stands_less : (n b : ℕ) (o : Option LlType) → stands_in_root (First p passes) g.types n b (reference_given (First p passes).counted o) ≡ true → stands_in_root (Second p passes) Types n b (reference_given (Second p passes).counted o) ≡ true
      stands_less n b o h = more (reference_given (Second p passes).counted o) (if_referred p passes (stands_in_root (First p passes) g.types n b) refl o h)
        where
          more : (x : Option ℕ) → stands_in_root (First p passes) g.types n b x ≡ true → stands_in_root (Second p passes) Types n b x ≡ true
          more None h = refl
          more (Some m) h = kept (has_type (type.Ptr (root p.structs n))) refl g.types (test_types (exceptions_of p) (raises_within (marks_of p) (any_of p) g.blocks)) b h

      op_less : (o : LlOp) → op_leads (First p passes) g.types o ≡ true → op_leads (Second p passes) Types o ≡ true
      op_less (op.SetField n b k x) h = stands_less n b (slice_get (fields_of (First p passes) n) (place_of (First p passes) n k)) h
      op_less (op.SetItem n b i x) h = stands_less n b (Rattle.ll_code.specs.Typed.items_of (slice_get p.structs n)) h
      op_less (op.NewArray a m n x) h = stands_less n a (Rattle.ll_code.specs.Typed.items_of (slice_get p.structs n)) h
      op_less (op.CallFn into result params b xs) h = all_lead_less p passes params h
      op_less other h = refl

      accepts : Accepts p Any any_next g (op_leads (Second p passes) Types)
      accepts = record { alone = λ v e h. refl; names = λ t n v e h. refl; puts = λ t v h. refl; asks = λ t. refl; tests = λ t. refl; takes = λ a h. refl; clears = refl; gives = λ a v by without o h k. refl }

      own_leads : (ops : List LlOp) → ops_lead (First p passes) g.types ops ≡ true → Own p Any any_next g (op_leads (Second p passes) Types) accepts ops
      own_leads [] h = tt
      own_leads (o ∷ ops) h = (λ c. op_less o (and_left _ _ h), own_leads ops (and_right (op_leads (First p passes) g.types o) _ h))

      own_all : (blocks : List LlBlock) → blocks_lead (First p passes) g.types blocks ≡ true → OwnAll p Any any_next g (op_leads (Second p passes) Types) accepts blocks
      own_all [] h = tt
      own_all (b ∷ blocks) h = (own_leads b.ops (and_left _ _ h), tt, own_all blocks (and_right (ops_lead (First p passes) g.types b.ops) _ h))

      ops_are : (ops : List LlOp) → ops_all (op_leads (Second p passes) Types) ops ≡ true → ops_lead (Second p passes) Types ops ≡ true
      ops_are [] h = refl
      ops_are (o ∷ ops) h = and_both (op_leads (Second p passes) Types o) (ops_lead (Second p passes) Types ops) (and_left _ _ h) (ops_are ops (and_right (op_leads (Second p passes) Types o) _ h))

      blocks_are : (blocks : List LlBlock) → blocks_all (on_ops p Any any_next g (op_leads (Second p passes) Types) accepts) blocks ≡ true → blocks_lead (Second p passes) Types blocks ≡ true
      blocks_are [] h = refl
      blocks_are (b ∷ blocks) h = and_both (ops_lead (Second p passes) Types b.ops) (blocks_lead (Second p passes) Types blocks) (ops_are b.ops (and_left _ _ h)) (blocks_are blocks (and_right (ops_all (op_leads (Second p passes) Types) b.ops) _ h))

      graph_less : graph_raisable p g ≡ true → graph_leads (First p passes) g ≡ true → graph_leads (Second p passes) (explicit_graph p g) ≡ true
      graph_less h k =
          and_both (all_lead (Second p passes) Types && is_root_given (Second p passes) (reference_to (Second p passes).counted g.result)) (blocks_lead (Second p passes) Types (explicit_graph p g).blocks)
          (and_both (all_lead (Second p passes) Types) (is_root_given (Second p passes) (reference_to (Second p passes).counted g.result))
          (both_lead g.types (test_types (exceptions_of p) (raises_within (marks_of p) (any_of p) g.blocks)) (all_lead_less p passes g.types (and_left _ _ (and_left _ _ k))) (more_lead (raises_within (marks_of p) (any_of p) g.blocks)))
          (lead_less p passes (Some g.result) (and_right (all_lead (First p passes) g.types) _ (and_left _ _ k))))
          (blocks_are (blocks_of (around_in p g) g.blocks) (graph_holds p Any any_next g (op_leads (Second p passes) Types) accepts (and_right _ _ h) (own_all g.blocks (and_right _ _ k))))

    graphs_less : (graphs : List LlGraph) → graphs_raisable p graphs ≡ true → graphs_lead (First p passes) graphs ≡ true → graphs_lead (Second p passes) (map (graph_of (exceptions_of p) (marks_of p)) graphs) ≡ true
    graphs_less [] h k = refl
    graphs_less (g ∷ graphs) h k =
        and_both (graph_leads (Second p passes) (explicit_graph p g)) (graphs_lead (Second p passes) (map (graph_of (exceptions_of p) (marks_of p)) graphs)) (graph_less g (and_left _ _ h) (and_left _ _ k))
        (graphs_less graphs (and_right (graph_raisable p g) _ h) (and_right (graph_leads (First p passes) g) _ k))

    graphs_are_so : (explicit p).graphs ≡ map (graph_of (exceptions_of p) (marks_of p)) p.graphs
    graphs_are_so = ap (λ b. cond b p.graphs (graphs_of p.structs p.graphs)) raises

    pub made_lead : LeadsToRoots (explicit p)
    made_lead =
        and_both (structs_lead (Second p passes) p.structs) (graphs_lead (Second p passes) (explicit p).graphs) (structs_lead_less p passes p.structs (and_left _ _ leads))
        (ap (graphs_lead (Second p passes)) graphs_are_so ∙ graphs_less p.graphs (and_left _ _ passes) (and_right _ _ leads))

pub made_numbered : (p : LlProgram) → IsRaisable p → HasNumbers p → HasNumbers (explicit p)
made_numbered p passes h = numbered_less p passes p.structs h
