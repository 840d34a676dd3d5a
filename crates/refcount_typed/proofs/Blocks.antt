-- The blocks of a graph that keeps the rules keep them with their changes of counts.
use Rattle.std.proofs.Common.{◌≡◌, ◌<◌, ℕ, zero, suc, ◌+◌, Bool, true, false, ◌&&◌, ◌||◌, List, [], ◌∷◌, ◌++◌, length, Option, Some, None, refl, sym, ap, ◌∙◌, arith}
use Rattle.std.specs.Prelude.{slice_get}
use Rattle.csub_tree.specs.declared.tree.COperand.{COperand}
use Rattle.ll_code.specs.declared.program.LlStage.TheVariants as stage
use Rattle.ll_code.specs.declared.program.LlType.{LlType}
use Rattle.ll_code.specs.declared.program.LlType.TheVariants as type
use Rattle.ll_code.specs.declared.program.LlLink.{LlLink}
use Rattle.ll_code.specs.declared.program.LlOp.{LlOp}
use Rattle.ll_code.specs.declared.program.LlExit.{LlExit}
use Rattle.ll_code.specs.declared.program.LlExit.TheVariants as exit
use Rattle.ll_code.specs.declared.program.LlBlock.{LlBlock}
use Rattle.ll_code.specs.declared.program.LlGraph.{LlGraph}
use Rattle.ll_code.specs.declared.program.LlProgram.{LlProgram}
use Rattle.ll_code.specs.Typed as rules
use Rattle.ll_code.specs.Typed.{IsWellTyped, items_of, is_char, are_kinds, is_kind, params_ok, is_type_given, is_void, has_type, takes, all_given, enters, link_ok, return_ok, names_chars, exit_ok, operation_ok, operations_ok, block_ok, blocks_ok, graph_ok, graphs_ok}
use Rattle.ll_laws.proofs.Values.{and_left, and_right}
use Rattle.ll_live.specs.Live.{variables_in}
use Rattle.refcount_transform.specs.Plan.{Plan, plan_of, made_by, has_root, ops_make, blocks_make, graphs_make, referred}
use Rattle.refcount_transform.specs.Made.{block_with}
use Rattle.refcount_transform.specs.Changes.{Around, around_of, dead, touched, leaving, ops_of}
use Rattle.refcount_transform.specs.Blocks.{left, way_ops, way_link, way_block, exit_of, behind_exit, block_of, firsts, others, blocks_of, graph_of}
use Rattle.refcount_transform.specs.Counted.{counted}
use Rattle.refcount_laws.specs.Made.{is_root_given, all_lead, leads_to_roots}
use Rattle.refcount_laws.proofs.Numbers.{length_two, get_left, get_right}
use Rattle.refcount_typed.specs.Numbered.{HasNumbers}
use Rattle.refcount_typed.specs.Leads.{op_leads, ops_lead, blocks_lead, graphs_lead}
use Rattle.refcount_typed.proofs.Tests.{and_both}
use Rattle.refcount_typed.proofs.Structs.{items_same}
use Rattle.refcount_typed.proofs.Kept.{taken_kept, all_given_kept}
use Rattle.refcount_typed.proofs.Roots.{inside}
use Rattle.refcount_typed.proofs.Calls.{AllReady, taken_ready, all_given_ready, dead_fine, left_fine, given_fine}
use Rattle.refcount_typed.proofs.Changed.{changed_fine}

or_first : (a b : Bool) → a ≡ true → (a || b) ≡ true
or_first true b e = refl
or_first false b e = absurd (cc)

or_second : (a b : Bool) → b ≡ true → (a || b) ≡ true
or_second true b e = refl
or_second false b e = e

-- ---- where the first pieces stand

pub record Block (around : Around) (blocks : List LlBlock) (n : ℕ) (b : LlBlock) : Type 0 where
  pub number : ℕ
  pub is : slice_get blocks n ≡ Some (block_of around number b)

firsts_long : (around : Around) (next : ℕ) (bs : List LlBlock) → length (firsts around next bs) ≡ length bs
firsts_long around next [] = refl
firsts_long around next (b ∷ bs) = ap suc (firsts_long around (next + length (behind_exit around b.exit)) bs)

first_at : (around : Around) (next : ℕ) (bs : List LlBlock) (n : ℕ) (b : LlBlock) → slice_get bs n ≡ Some b → Block around (firsts around next bs) n b
first_at around next [] n b e = absurd (cc)
first_at around next (x ∷ bs) zero b e = let f : x ≡ b = cc in record { number = next; is = ap (λ x. Some (block_of around next x)) f }
first_at around next (x ∷ bs) (suc n) b e = let w : Block around (firsts around (next + length (behind_exit around x.exit)) bs) n b = first_at around (next + length (behind_exit around x.exit)) bs n b e in record { number = w.number; is = w.is }

pub block_at : (around : Around) (bs : List LlBlock) (n : ℕ) (b : LlBlock) → slice_get bs n ≡ Some b → Block around (blocks_of around bs) n b
block_at around bs n b e =
    let w : Block around (firsts around (length bs) bs) n b = first_at around (length bs) bs n b e in
    record {
      number = w.number;
      is = get_left (firsts around (length bs) bs) (others around bs) n (let l : length (firsts around (length bs) bs) ≡ length bs = firsts_long around (length bs) bs in omega (arith, l, inside bs n b e)) ∙ w.is;
    }

module _ (p : LlProgram) (ok : IsWellTyped p) (explicit : p.stage ≡ stage.Explicit) (leads : leads_to_roots p ≡ true) (graphs_do : graphs_lead (plan_of p) p.graphs ≡ true) (numbers : HasNumbers p) where
  abbrev plan : Plan
  plan = plan_of p

  module _ (g : LlGraph) (lead : all_lead plan g.types ≡ true) (gives : is_root_given plan (referred plan g.result) ≡ true) where
    abbrev around : Around
    around = around_of plan g.types

    abbrev New : LlGraph
    New = graph_of plan g

    abbrev Fine : List LlOp → Type 0
    Fine ops = operations_ok (counted p) g.types ops ≡ true

    abbrev Readies : List COperand → Type 0
    Readies xs = AllReady p ok leads g.types lead xs

    -- ---- links

    link_kept : (l : LlLink) → link_ok p g l ≡ true → link_ok (counted p) New l ≡ true
    link_kept l h = by (slice_get g.blocks l.to) refl h
      where
        by : (o : Option LlBlock) → slice_get g.blocks l.to ≡ o → enters p g.types o l.args ≡ true → enters (counted p) g.types (slice_get (blocks_of around g.blocks) l.to) l.args ≡ true
        by None e h = absurd (cc)
        by (Some b) e h =
            let w : Block around (blocks_of around g.blocks) l.to b = block_at around g.blocks l.to b e in
            ap (λ o. enters (counted p) g.types o l.args) w.is ∙ all_given_kept p g.types g.types b.inputs l.args h

    link_ready : (l : LlLink) → link_ok p g l ≡ true → Readies l.args
    link_ready l h = by (slice_get g.blocks l.to) h
      where
        by : (o : Option LlBlock) → enters p g.types o l.args ≡ true → Readies l.args
        by None h = absurd (cc)
        by (Some b) h = all_given_ready p ok leads g.types lead g.types lead b.inputs l.args h

    -- ---- exits

    way_fine : (way other : LlLink) → link_ok p g way ≡ true → Fine (way_ops around way other)
    way_fine way other h = given_fine p ok leads g.types lead way.args (left around way.args (variables_in other.args) []) (link_ready way h) (left_fine p ok leads g.types lead way.args (variables_in other.args) [] refl)

    -- the blocks that stand behind the others for an exit have the numbers from here on
    abbrev Stand : ℕ → List LlBlock → Type 0
    Stand next bs = (i : ℕ) → i < length bs → slice_get (blocks_of around g.blocks) (next + i) ≡ slice_get bs i

    way_kept : (way : LlLink) (next : ℕ) (ops : List LlOp) → link_ok p g way ≡ true → Stand next (way_block way ops) → link_ok (counted p) New (way_link way next ops) ≡ true
    way_kept way next [] h at = link_kept way h
    way_kept way next (o ∷ ops) h at =
        ap (λ b. enters (counted p) g.types b []) (ap (slice_get (blocks_of around g.blocks)) (let z : next ≡ next + 0 = omega arith in z) ∙ at 0 (omega arith))

    ways_split : (next : ℕ) (xs ys : List LlBlock) → Stand next (xs ++ ys) → Stand next xs × Stand (next + length xs) ys
    ways_split next xs ys at = (
      λ i lt. at i (omega (arith, lt, length_two xs ys)) ∙ get_left xs ys i lt,
      λ i lt. ap (slice_get (blocks_of around g.blocks)) (let z : next + length xs + i ≡ next + (length xs + i) = omega arith in z) ∙ at (length xs + i) (omega (arith, lt, length_two xs ys)) ∙ get_right xs ys i,
    )

    pub exit_kept : (next : ℕ) (e : LlExit) → exit_ok p g e ≡ true → Stand next (behind_exit around e) → exit_ok (counted p) New (exit_of around next e) ≡ true
    exit_kept next (exit.Goto l) h at = link_kept l h
    exit_kept next (exit.If a there elsewhere) h at =
        let there_ok : link_ok p g there ≡ true = and_right (has_type type.Bool (slice_get g.types a)) _ (and_left _ _ h) in
        let elsewhere_ok : link_ok p g elsewhere ≡ true = and_right (has_type type.Bool (slice_get g.types a) && link_ok p g there) _ h in
        let w : Stand next (way_block there (way_ops around there elsewhere)) × Stand (next + length (way_block there (way_ops around there elsewhere))) (way_block elsewhere (way_ops around elsewhere there)) =
        ways_split next (way_block there (way_ops around there elsewhere)) (way_block elsewhere (way_ops around elsewhere there)) at in
        and_both (has_type type.Bool (slice_get g.types a) && link_ok (counted p) New (way_link there next (way_ops around there elsewhere)))
        (link_ok (counted p) New (way_link elsewhere (next + length (way_block there (way_ops around there elsewhere))) (way_ops around elsewhere there)))
        (and_both (has_type type.Bool (slice_get g.types a)) (link_ok (counted p) New (way_link there next (way_ops around there elsewhere))) (and_left _ _ (and_left _ _ h)) (way_kept there next (way_ops around there elsewhere) there_ok w.0))
        (way_kept elsewhere (next + length (way_block there (way_ops around there elsewhere))) (way_ops around elsewhere there) elsewhere_ok w.1)
    exit_kept next (exit.OnRaise a by without) h at = link_kept without (and_right _ (link_ok p g without) h)
    exit_kept next (exit.Return None) h at = h
    exit_kept next (exit.Return (Some x)) h at = taken_kept p g.types g.result x h
    exit_kept next (exit.Raise a) h at = absurd (let f : true ≡ false = no (rules.is_raw p.stage) (rules.points (slice_get g.types a)) (ap rules.is_raw explicit) h in cc)
      where
        no : (b q : Bool) → b ≡ false → (b && q) ≡ true → true ≡ false
        no true q e h = e
        no false q e h = sym h
    exit_kept next (exit.Fail n) h at = h
    exit_kept next (exit.Raised a) h at = named (slice_get g.types a) h
      where
        named : (o : Option LlType) → names_chars p.structs o ≡ true → names_chars (counted p).structs o ≡ true
        named None h = absurd (cc)
        named (Some type.Signed) h = absurd (cc)
        named (Some type.Char) h = absurd (cc)
        named (Some type.Bool) h = absurd (cc)
        named (Some type.Void) h = absurd (cc)
        named (Some type.Fn) h = absurd (cc)
        named (Some (type.Ptr n)) h = ap is_char (items_same p n) ∙ h

    way_block_fine : (way : LlLink) (ops : List LlOp) → link_ok p g way ≡ true → Fine ops → blocks_ok (counted p) New (way_block way ops) ≡ true
    way_block_fine way [] h k = refl
    way_block_fine way (o ∷ ops) h k = and_both (block_ok (counted p) New (block_with [] (o ∷ ops) (exit.Goto way))) true (and_both (operations_ok (counted p) g.types (o ∷ ops)) (link_ok (counted p) New way) k (link_kept way h)) refl

    both_fine : (xs ys : List LlBlock) → blocks_ok (counted p) New xs ≡ true → blocks_ok (counted p) New ys ≡ true → blocks_ok (counted p) New (xs ++ ys) ≡ true
    both_fine [] ys h k = k
    both_fine (x ∷ xs) ys h k = and_both (block_ok (counted p) New x) (blocks_ok (counted p) New (xs ++ ys)) (and_left _ _ h) (both_fine xs ys (and_right (block_ok (counted p) New x) _ h) k)

    behind_fine : (e : LlExit) → exit_ok p g e ≡ true → blocks_ok (counted p) New (behind_exit around e) ≡ true
    behind_fine (exit.If a there elsewhere) h =
        let there_ok : link_ok p g there ≡ true = and_right (has_type type.Bool (slice_get g.types a)) _ (and_left _ _ h) in
        let elsewhere_ok : link_ok p g elsewhere ≡ true = and_right (has_type type.Bool (slice_get g.types a) && link_ok p g there) _ h in
        both_fine (way_block there (way_ops around there elsewhere)) (way_block elsewhere (way_ops around elsewhere there)) (way_block_fine there (way_ops around there elsewhere) there_ok (way_fine there elsewhere there_ok))
        (way_block_fine elsewhere (way_ops around elsewhere there) elsewhere_ok (way_fine elsewhere there elsewhere_ok))
    behind_fine (exit.Goto l) h = refl
    behind_fine (exit.OnRaise a by without) h = refl
    behind_fine (exit.Return x) h = refl
    behind_fine (exit.Raise a) h = refl
    behind_fine (exit.Fail n) h = refl
    behind_fine (exit.Raised a) h = refl

    -- ---- operations

    leaving_fine : (e : LlExit) → exit_ok p g e ≡ true → Fine (leaving around e)
    leaving_fine (exit.Goto l) h = given_fine p ok leads g.types lead l.args [] (link_ready l h) refl
    leaving_fine (exit.OnRaise a by without) h = given_fine p ok leads g.types lead without.args [] (link_ready without (and_right _ (link_ok p g without) h)) refl
    leaving_fine (exit.Return (Some x)) h = given_fine p ok leads g.types lead (x ∷ []) [] (taken_ready p ok leads g.types lead g.result x h gives, tt) refl
    leaving_fine (exit.Return None) h = refl
    leaving_fine (exit.If a there elsewhere) h = refl
    leaving_fine (exit.Raise a) h = refl
    leaving_fine (exit.Fail n) h = refl
    leaving_fine (exit.Raised a) h = refl

    ops_fine : (ops : List LlOp) (e : LlExit) → operations_ok p g.types ops ≡ true → ops_lead plan g.types ops ≡ true → ((r : ℕ) → ops_make p.structs r ops ≡ true → graphs_make p.structs r p.graphs ≡ true) → exit_ok p g e ≡ true
        → Fine (ops_of around ops e)
    ops_fine [] e h l mine i = leaving_fine e i
    ops_fine (o ∷ ops) e h l mine i =
        changed_fine p ok explicit leads graphs_do numbers g.types lead o (and_left _ _ h) (and_left _ _ l) (λ r m. mine r (or_first (has_root p.structs r (made_by o)) (ops_make p.structs r ops) m)) (dead around (touched o) ops e (ops_of around ops e))
        (dead_fine p ok leads g.types lead (touched o) ops e (ops_of around ops e)
        (ops_fine ops e (and_right (operation_ok p g.types o) _ h) (and_right (op_leads plan g.types o) _ l) (λ r m. mine r (or_second (has_root p.structs r (made_by o)) (ops_make p.structs r ops) m)) i))

    -- ---- blocks

    abbrev Within : List LlBlock → Type 0
    Within bs = (r : ℕ) → blocks_make p.structs r bs ≡ true → graphs_make p.structs r p.graphs ≡ true

    block_fine : (next : ℕ) (b : LlBlock) → block_ok p g b ≡ true → ops_lead plan g.types b.ops ≡ true → ((r : ℕ) → ops_make p.structs r b.ops ≡ true → graphs_make p.structs r p.graphs ≡ true) → Stand next (behind_exit around b.exit)
        → block_ok (counted p) New (block_of around next b) ≡ true
    block_fine next b h l mine at =
        let exit_is : exit_ok p g b.exit ≡ true = and_right (operations_ok p g.types b.ops) _ h in
        and_both (operations_ok (counted p) g.types (dead around b.inputs b.ops b.exit (ops_of around b.ops b.exit))) (exit_ok (counted p) New (exit_of around next b.exit))
        (dead_fine p ok leads g.types lead b.inputs b.ops b.exit (ops_of around b.ops b.exit) (ops_fine b.ops b.exit (and_left _ _ h) l mine exit_is)) (exit_kept next b.exit exit_is at)

    firsts_fine : (next : ℕ) (bs : List LlBlock) → blocks_ok p g bs ≡ true → blocks_lead plan g.types bs ≡ true → Within bs → Stand next (others around bs) → blocks_ok (counted p) New (firsts around next bs) ≡ true
    firsts_fine next [] h l within at = refl
    firsts_fine next (b ∷ bs) h l within at =
        let w : Stand next (behind_exit around b.exit) × Stand (next + length (behind_exit around b.exit)) (others around bs) = ways_split next (behind_exit around b.exit) (others around bs) at in
        and_both (block_ok (counted p) New (block_of around next b)) (blocks_ok (counted p) New (firsts around (next + length (behind_exit around b.exit)) bs))
        (block_fine next b (and_left _ _ h) (and_left _ _ l) (λ r m. within r (or_first (ops_make p.structs r b.ops) (blocks_make p.structs r bs) m)) w.0)
        (firsts_fine (next + length (behind_exit around b.exit)) bs (and_right (block_ok p g b) _ h) (and_right (ops_lead plan g.types b.ops) _ l) (λ r m. within r (or_second (ops_make p.structs r b.ops) (blocks_make p.structs r bs) m)) w.1)

    others_fine : (bs : List LlBlock) → blocks_ok p g bs ≡ true → blocks_ok (counted p) New (others around bs) ≡ true
    others_fine [] h = refl
    others_fine (b ∷ bs) h = both_fine (behind_exit around b.exit) (others around bs) (behind_fine b.exit (and_right (operations_ok p g.types b.ops) _ (and_left _ _ h))) (others_fine bs (and_right (block_ok p g b) _ h))

    pub blocks_fine : blocks_ok p g g.blocks ≡ true → blocks_lead plan g.types g.blocks ≡ true → Within g.blocks → blocks_ok (counted p) New (blocks_of around g.blocks) ≡ true
    blocks_fine h l within =
        both_fine (firsts around (length g.blocks) g.blocks) (others around g.blocks)
        (firsts_fine (length g.blocks) g.blocks h l within
        (λ i lt. ap (slice_get (blocks_of around g.blocks)) (ap (λ n. n + i) (sym (firsts_long around (length g.blocks) g.blocks))) ∙ get_right (firsts around (length g.blocks) g.blocks) (others around g.blocks) i))
        (others_fine g.blocks h)
