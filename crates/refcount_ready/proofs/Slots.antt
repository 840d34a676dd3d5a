-- What the exception slots refer to: what the first operation that sets them says, and all say the same.
use Rattle.std.proofs.Common.{◌≡◌, ◌⊎◌, inl, inr, ℕ, zero, suc, true, List, [], ◌∷◌, length, Option, Some, None, refl, sym, ap, ◌∙◌, subst}
use Rattle.std.specs.Prelude.{slice_get}
use Rattle.ll_code.specs.declared.program.LlType.{LlType}
use Rattle.ll_code.specs.declared.program.LlType.TheVariants as type
use Rattle.ll_code.specs.declared.program.LlOp.{LlOp}
use Rattle.ll_code.specs.declared.program.LlOp.TheVariants as op
use Rattle.ll_code.specs.declared.program.LlBlock.{LlBlock}
use Rattle.ll_code.specs.declared.program.LlGraph.{LlGraph}
use Rattle.ll_code.specs.declared.program.LlProgram.{LlProgram}
use Rattle.ll_laws.proofs.Values.{and_left, and_right, has_type_is}
use Rattle.ll_points.specs.Agrees.{op_agrees, ops_agree, blocks_agree, graphs_agree}
use Rattle.refcount_transform.specs.declared.slots.Slots.{Slots}
use Rattle.refcount_transform.specs.Plan.{plan_of, root_of, reference_to, reference_given, set_by_ops, or_found, set_by_blocks, no_slots, or_slots, slots_of}
use Rattle.refcount_laws.specs.Matches.{AllRoots}
use Rattle.refcount_ready.proofs.Tests.{Stands}

-- the variables of an operation that sets the slots have these types
pub record Typed (k v : ℕ) (types : List LlType) (x : ℕ × ℕ) : Type 0 where
  pub first : slice_get types x.0 ≡ Some (type.Ptr k)
  pub second : slice_get types x.1 ≡ Some (type.Ptr v)

typed_ops : (k v : ℕ) (types : List LlType) (ops : List LlOp) (x : ℕ × ℕ) → ops_agree (Some (k, v)) types ops ≡ true → set_by_ops ops ≡ Some x → Typed k v types x
typed_ops k v types [] x h e = absurd (cc)
typed_ops k v types (op.ExcSet a b ∷ ops) x h e =
    let f : (a, b) ≡ x = cc in
    subst (Typed k v types) f (record { first = has_type_is (type.Ptr k) (slice_get types a) (and_left _ _ (and_left _ _ h)); second = has_type_is (type.Ptr v) (slice_get types b) (and_right _ _ (and_left _ _ h)) })
typed_ops k v types (other ∷ ops) x h e = typed_ops k v types ops x (and_right (op_agrees (Some (k, v)) types other) (ops_agree (Some (k, v)) types ops) h) e

typed_blocks : (k v : ℕ) (types : List LlType) (blocks : List LlBlock) (x : ℕ × ℕ) → blocks_agree (Some (k, v)) types blocks ≡ true → set_by_blocks blocks ≡ Some x → Typed k v types x
typed_blocks k v types [] x h e = absurd (cc)
typed_blocks k v types (block ∷ blocks) x h e = by (λ g. typed_blocks k v types blocks x (and_right _ _ h) g) (set_by_ops block.ops) refl e
  where
    by : (set_by_blocks blocks ≡ Some x → Typed k v types x) → (o : Option (ℕ × ℕ)) → set_by_ops block.ops ≡ o → or_found o (set_by_blocks blocks) ≡ Some x → Typed k v types x
    by go None f g = go g
    by go (Some y) f g = typed_ops k v types block.ops x (and_left _ _ (and_left _ _ h)) (f ∙ g)

none_ops : (types : List LlType) (ops : List LlOp) → ops_agree None types ops ≡ true → set_by_ops ops ≡ None
none_ops types [] h = refl
none_ops types (op.ExcSet a b ∷ ops) h = absurd (cc)
none_ops types (other ∷ ops) h = none_ops types ops (and_right (op_agrees None types other) (ops_agree None types ops) h)

none_blocks : (types : List LlType) (blocks : List LlBlock) → blocks_agree None types blocks ≡ true → set_by_blocks blocks ≡ None
none_blocks types [] h = refl
none_blocks types (block ∷ blocks) h = ap (λ o. or_found o (set_by_blocks blocks)) (none_ops types block.ops (and_left _ _ (and_left _ _ h))) ∙ none_blocks types blocks (and_right _ _ h)

-- ---- an operation that sets them is found

set_ops : (ops : List LlOp) (at a b : ℕ) → slice_get ops at ≡ Some (op.ExcSet a b) → (x : ℕ × ℕ) × (set_by_ops ops ≡ Some x)
set_ops [] at a b e = absurd (cc)
set_ops (op.ExcSet c d ∷ ops) at a b e = ((c, d), refl)
set_ops (other ∷ ops) zero a b e = absurd (cc)
set_ops (other ∷ ops) (suc at) a b e = set_ops ops at a b e

set_blocks : (blocks : List LlBlock) (n : ℕ) (block : LlBlock) (at a b : ℕ) → slice_get blocks n ≡ Some block → slice_get block.ops at ≡ Some (op.ExcSet a b) → (x : ℕ × ℕ) × (set_by_blocks blocks ≡ Some x)
set_blocks [] n block at a b e f = absurd (cc)
set_blocks (x ∷ blocks) zero block at a b e f =
    let same : x ≡ block = cc in
    let w : (y : ℕ × ℕ) × (set_by_ops x.ops ≡ Some y) = set_ops x.ops at a b (ap (λ b. slice_get b.ops at) same ∙ f) in (w.0, ap (λ o. or_found o (set_by_blocks blocks)) w.1)
set_blocks (x ∷ blocks) (suc n) block at a b e f = by (set_by_ops x.ops) (set_blocks blocks n block at a b e f)
  where
    by : (o : Option (ℕ × ℕ)) → (y : ℕ × ℕ) × (set_by_blocks blocks ≡ Some y) → (y : ℕ × ℕ) × (or_found o (set_by_blocks blocks) ≡ Some y)
    by None w = w
    by (Some y) w = (y, refl)

-- ---- what the slots refer to

module _ (p : LlProgram) where
  -- these two structs, where they are counted, and then they are roots
  pub record Found (k v : ℕ) (slots : Slots) : Type 0 where
    pub kind : slots.kind ≡ reference_to (plan_of p).counted (type.Ptr k)
    pub value : slots.value ≡ reference_to (plan_of p).counted (type.Ptr v)
    pub root_kind : (n : ℕ) → reference_to (plan_of p).counted (type.Ptr k) ≡ Some n → root_of (plan_of p) n ≡ n
    pub root_value : (n : ℕ) → reference_to (plan_of p).counted (type.Ptr v) ≡ Some n → root_of (plan_of p) n ≡ n

  abbrev pub Rooted : List LlGraph → Type 0
  Rooted graphs = (f : ℕ) (graph : LlGraph) → slice_get graphs f ≡ Some graph → AllRoots p graph.types

  found_first : (k v : ℕ) (graph : LlGraph) (clear : ℕ) (x : ℕ × ℕ) (other : Slots) → AllRoots p graph.types → Typed k v graph.types x → Found k v (or_slots (plan_of p).counted graph.types clear (Some x) other)
  found_first k v graph clear x other roots typed = record {
    kind = ap (reference_given (plan_of p).counted) typed.first;
    value = ap (reference_given (plan_of p).counted) typed.second;
    root_kind = λ n e. roots x.0 n (ap (reference_given (plan_of p).counted) typed.first ∙ e);
    root_value = λ n e. roots x.1 n (ap (reference_given (plan_of p).counted) typed.second ∙ e);
  }

  -- either nothing sets them, or they are found
  found_or_not : (k v : ℕ) (graphs : List LlGraph) (clear : ℕ) → Rooted graphs → graphs_agree (Some (k, v)) graphs ≡ true
      → (slots_of (plan_of p).counted graphs clear ≡ no_slots clear) ⊎ Found k v (slots_of (plan_of p).counted graphs clear)
  found_or_not k v [] clear roots h = inl refl
  found_or_not k v (graph ∷ graphs) clear roots h = by (found_or_not k v graphs clear (λ f g there. roots (suc f) g there) (and_right _ _ h)) (set_by_blocks graph.blocks) refl
    where
      by : (slots_of (plan_of p).counted graphs clear ≡ no_slots clear) ⊎ Found k v (slots_of (plan_of p).counted graphs clear) → (o : Option (ℕ × ℕ)) → set_by_blocks graph.blocks ≡ o
          → (or_slots (plan_of p).counted graph.types clear o (slots_of (plan_of p).counted graphs clear) ≡ no_slots clear) ⊎ Found k v (or_slots (plan_of p).counted graph.types clear o (slots_of (plan_of p).counted graphs clear))
      by go None e = go
      by go (Some x) e = inr (found_first k v graph clear x (slots_of (plan_of p).counted graphs clear) (roots 0 graph refl) (typed_blocks k v graph.types graph.blocks x (and_left _ _ h) e))

  found_by : (k v : ℕ) (graphs : List LlGraph) (clear : ℕ) → Rooted graphs → graphs_agree (Some (k, v)) graphs ≡ true → (f : ℕ) (graph : LlGraph) (x : ℕ × ℕ) → slice_get graphs f ≡ Some graph → set_by_blocks graph.blocks ≡ Some x
      → Found k v (slots_of (plan_of p).counted graphs clear)
  found_by k v [] clear roots h f graph x e g = absurd (cc)
  found_by k v (y ∷ graphs) clear roots h zero graph x e g =
      let same : y ≡ graph = cc in
      let is : set_by_blocks y.blocks ≡ Some x = ap (λ g. set_by_blocks g.blocks) same ∙ g in
      subst (λ o. Found k v (or_slots (plan_of p).counted y.types clear o (slots_of (plan_of p).counted graphs clear))) (sym is)
      (found_first k v y clear x (slots_of (plan_of p).counted graphs clear) (roots 0 y refl) (typed_blocks k v y.types y.blocks x (and_left _ _ h) is))
  found_by k v (y ∷ graphs) clear roots h (suc f) graph x e g = by (set_by_blocks y.blocks) refl (found_by k v graphs clear (λ f g there. roots (suc f) g there) (and_right _ _ h) f graph x e g)
    where
      by : (o : Option (ℕ × ℕ)) → set_by_blocks y.blocks ≡ o → Found k v (slots_of (plan_of p).counted graphs clear) → Found k v (or_slots (plan_of p).counted y.types clear o (slots_of (plan_of p).counted graphs clear))
      by None e w = w
      by (Some z) e w = found_first k v y clear z (slots_of (plan_of p).counted graphs clear) (roots 0 y refl) (typed_blocks k v y.types y.blocks z (and_left _ _ h) e)

  not_found : (graphs : List LlGraph) (clear : ℕ) → graphs_agree None graphs ≡ true → slots_of (plan_of p).counted graphs clear ≡ no_slots clear
  not_found [] clear h = refl
  not_found (graph ∷ graphs) clear h =
      ap (λ o. or_slots (plan_of p).counted graph.types clear o (slots_of (plan_of p).counted graphs clear)) (none_blocks graph.types graph.blocks (and_left _ _ h)) ∙ not_found graphs clear (and_right _ _ h)

  pub slots_found_or_not : (k v : ℕ) → Rooted p.graphs → graphs_agree (Some (k, v)) p.graphs ≡ true → ((plan_of p).slots ≡ no_slots (length p.graphs)) ⊎ Found k v (plan_of p).slots
  slots_found_or_not k v roots h = found_or_not k v p.graphs (length p.graphs) roots h

  pub slots_found : (k v : ℕ) → Rooted p.graphs → graphs_agree (Some (k, v)) p.graphs ≡ true → (graph : LlGraph) (a b : ℕ) → Stands p graph (op.ExcSet a b) → Found k v (plan_of p).slots
  slots_found k v roots h graph a b w =
      let x : (x : ℕ × ℕ) × (set_by_blocks graph.blocks ≡ Some x) = set_blocks graph.blocks w.n w.block w.at a b w.of w.is in
      found_by k v p.graphs (length p.graphs) roots h w.f graph x.0 w.there x.1

  pub slots_not_found : graphs_agree None p.graphs ≡ true → (plan_of p).slots ≡ no_slots (length p.graphs)
  slots_not_found h = not_found p.graphs (length p.graphs) h
