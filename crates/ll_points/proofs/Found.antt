-- Where any slots agree with a program, those do that its first operation that sets them shows.
use Rattle.std.proofs.Common.{◌≡◌, ℕ, Bool, true, ◌&&◌, List, [], ◌∷◌, Some, None, refl, sym, ap, ◌∙◌, subst, ◌⊎◌, inl, inr}
use Rattle.std.specs.Prelude.{slice_get}
use Rattle.ll_code.specs.declared.program.LlType.{LlType}
use Rattle.ll_code.specs.declared.program.LlType.TheVariants as type
use Rattle.ll_code.specs.declared.program.LlOp.{LlOp}
use Rattle.ll_code.specs.declared.program.LlOp.TheVariants as op
use Rattle.ll_code.specs.declared.program.LlBlock.{LlBlock}
use Rattle.ll_code.specs.declared.program.LlGraph.{LlGraph}
use Rattle.ll_code.specs.declared.program.LlProgram.{LlProgram}
use Rattle.ll_code.specs.Typed.{has_type}
use Rattle.ll_laws.proofs.Values.{and_left, and_right, has_type_is}
use Rattle.ll_points.specs.Agrees.{Slots, Agrees, op_agrees, ops_agree, exit_agrees, block_agrees, blocks_agree, graphs_agree, pointed, or_else, slots_set, slots_in, slots_within, slots_among, slots_of}

and_both : (a b : Bool) → a ≡ true → b ≡ true → (a && b) ≡ true
and_both true b e f = f
and_both other b e f = absurd (cc)

-- what is found are these slots
record Finds (slots found : Slots) : Type 0 where
  pair : ℕ × ℕ
  are : slots ≡ Some pair
  is : found ≡ Some pair

-- or nothing is, and no slots agree as well
abbrev Shows : Slots → Slots → Bool → Type 0
Shows slots found quiet = Finds slots found ⊎ ((found ≡ None) × (quiet ≡ true))

joined : (slots a b : Slots) (x y : Bool) → Shows slots a x → Shows slots b y → Shows slots (or_else a b) (x && y)
joined slots a b x y (inl f) h = inl (record { pair = f.pair; are = f.are; is = ap (λ a. or_else a b) f.is })
joined slots a b x y (inr n) (inl f) = inl (record { pair = f.pair; are = f.are; is = ap (λ a. or_else a b) n.0 ∙ f.is })
joined slots a b x y (inr n) (inr m) = inr (ap (λ a. or_else a b) n.0 ∙ m.0, and_both x y n.1 m.1)

narrowed : (slots found : Slots) (x y : Bool) → y ≡ true → Shows slots found x → Shows slots found (x && y)
narrowed slots found x y e (inl f) = inl f
narrowed slots found x y e (inr n) = inr (n.0, and_both x y n.1 e)

op_shows : (slots : Slots) (types : List LlType) (o : LlOp) → op_agrees slots types o ≡ true → Shows slots (slots_set types o) (op_agrees None types o)
op_shows None types (op.ExcSet a b) h = absurd (cc)
op_shows None types other h = inr (refl, h)
op_shows (Some (k, v)) types (op.ExcSet a b) h = inl (record {
  pair = (k, v);
  are = refl;
  is = ap (λ s. pointed s (slice_get types b)) (has_type_is (type.Ptr k) (slice_get types a) (and_left _ _ h))
      ∙ ap (λ t. pointed (Some (type.Ptr k)) t) (has_type_is (type.Ptr v) (slice_get types b) (and_right (has_type (type.Ptr k) (slice_get types a)) _ h));
})
op_shows (Some (k, v)) types (op.Raise a) h = absurd (cc)
op_shows (Some (k, v)) types (op.Free a) h = absurd (cc)
op_shows (Some (k, v)) types other h = inr (refl, refl)

module _ (slots : Slots) where
  ops_show : (types : List LlType) (ops : List LlOp) → ops_agree slots types ops ≡ true → Shows slots (slots_in types ops) (ops_agree None types ops)
  ops_show types [] h = inr (refl, refl)
  ops_show types (o ∷ ops) h =
      joined slots (slots_set types o) (slots_in types ops) (op_agrees None types o) (ops_agree None types ops) (op_shows slots types o (and_left _ _ h)) (ops_show types ops (and_right _ _ h))

  blocks_show : (types : List LlType) (blocks : List LlBlock) → blocks_agree slots types blocks ≡ true → Shows slots (slots_within types blocks) (blocks_agree None types blocks)
  blocks_show types [] h = inr (refl, refl)
  blocks_show types (b ∷ blocks) h =
      joined slots (slots_in types b.ops) (slots_within types blocks) (block_agrees None types b) (blocks_agree None types blocks)
      (narrowed slots (slots_in types b.ops) (ops_agree None types b.ops) (exit_agrees b.exit) (and_right _ _ (and_left _ _ h)) (ops_show types b.ops (and_left _ _ (and_left _ _ h))))
      (blocks_show types blocks (and_right _ _ h))

  graphs_show : (graphs : List LlGraph) → graphs_agree slots graphs ≡ true → Shows slots (slots_among graphs) (graphs_agree None graphs)
  graphs_show [] h = inr (refl, refl)
  graphs_show (g ∷ graphs) h =
      joined slots (slots_within g.types g.blocks) (slots_among graphs) (blocks_agree None g.types g.blocks) (graphs_agree None graphs) (blocks_show g.types g.blocks (and_left _ _ h)) (graphs_show graphs (and_right _ _ h))

pub slots_found : (p : LlProgram) (slots : Slots) → Agrees slots p → Agrees (slots_of p) p
slots_found p slots h = by (graphs_show slots p.graphs h)
  where
    by : Shows slots (slots_among p.graphs) (graphs_agree None p.graphs) → Agrees (slots_of p) p
    by (inl f) = subst (λ s. graphs_agree s p.graphs ≡ true) (f.are ∙ sym f.is) h
    by (inr n) = subst (λ s. graphs_agree s p.graphs ≡ true) (sym n.0) n.1
