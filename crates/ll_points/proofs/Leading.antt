-- What leads goes on leading where blocks and statics keep their structs; and what constants and operands are leads.
use Rattle.std.proofs.Common.{◌≡◌, ℕ, Bool, true, false, ◌==◌, ◌&&◌, List, [], ◌∷◌, Option, Some, None, refl, sym, ap, ◌∙◌, subst, ◌⊎◌, inl, inr}
use Rattle.std.specs.Prelude.{slice_get, slice_set, slice_index_or, nat_lt, if◌then◌else◌}
use Rattle.csub_tree.specs.State.{Value, Unset, Ptr, Static, Block, Core}
use Rattle.csub_tree.specs.Layout.{begins_with, constant}
use Rattle.csub_tree.specs.Checked.{gives_bool}
use Rattle.csub_tree.specs.Statement.{read, operand}
use Rattle.csub_tree.specs.declared.tree.CConst.{CConst}
use Rattle.csub_tree.specs.declared.tree.CConst.TheVariants as constant
use Rattle.csub_tree.specs.declared.tree.COperand.{COperand}
use Rattle.csub_tree.specs.declared.tree.COperand.TheVariants.{Var, Const}
use Rattle.csub_tree.specs.declared.tree.CUnary.{CUnary}
use Rattle.csub_tree.specs.declared.tree.CUnary.TheVariants as one
use Rattle.csub_tree.specs.declared.tree.CBinary.{CBinary}
use Rattle.csub_tree.specs.declared.tree.CStatic.{CStatic}
use Rattle.ll_code.specs.declared.program.LlType.{LlType}
use Rattle.ll_code.specs.declared.program.LlType.TheVariants as type
use Rattle.ll_code.specs.declared.program.LlProgram.{LlProgram}
use Rattle.ll_code.specs.State.{Frame}
use Rattle.ll_code.specs.Machine.{shapes_of}
use Rattle.ll_code.specs.Typed.{is_of, is_cast, takes, unary_gives, binary_gives, structs_ok}
use Rattle.csub_tree.specs.Checked.{kind_of}
use Rattle.ll_laws.proofs.Values.{and_left, and_right, is_same, has_type_is}
use Rattle.ll_laws.proofs.Operations.{set_at}
use Rattle.ll_points.specs.Agrees.{Slots}
use Rattle.ll_points.specs.Points.{Leads, LeadsBy, AllLead, BlockLeads, StaticsStand, SlotsLead, MemoryLeads, FramesLead}
use Rattle.ll_points.proofs.Shapes.{begins_so}

-- ---- lists

-- there is a block, of this struct
pub record Kept (found : Option Block) (kind : ℕ) : Type 0 where
  pub block : Block
  pub is : found ≡ Some block
  pub same : block.kind ≡ kind

pub record Grows (blocks : List (Option Block)) (statics : List Block) (more : List (Option Block)) (after : List Block) : Type 0 where
  pub each : (b : ℕ) (block : Block) → slice_index_or blocks b None ≡ Some block → Kept (slice_index_or more b None) block.kind
  pub each_static : (s : ℕ) (block : Block) → slice_get statics s ≡ Some block → Kept (slice_get after s) block.kind

pub grows_same : (blocks : List (Option Block)) (statics : List Block) → Grows blocks statics blocks statics
grows_same blocks statics = record { each = λ b block e. record { block = block; is = e; same = refl }; each_static = λ s block e. record { block = block; is = e; same = refl } }

module _ (p : LlProgram) where
  -- ---- with blocks and statics of the same structs

  module _ (blocks : List (Option Block)) (statics : List Block) (more : List (Option Block)) (after : List Block) (grows : Grows blocks statics more after) where
    pub leads_more : (n : ℕ) (value : Value) → Leads p blocks statics n value → Leads p more after n value
    leads_more n (Ptr b) (block, is, h) =
        let k : Kept (slice_index_or more b None) block.kind = grows.each b block is in (k.block, k.is, subst (λ kind. begins_with (shapes_of p.structs) kind n ≡ true) (sym k.same) h)
    leads_more n (Static s) (block, is, h) =
        let k : Kept (slice_get after s) block.kind = grows.each_static s block is in (k.block, k.is, subst (λ kind. begins_with (shapes_of p.structs) kind n ≡ true) (sym k.same) h)
    leads_more n other h = tt

    pub by_more : (t : LlType) (value : Value) → LeadsBy p blocks statics t value → LeadsBy p more after t value
    by_more (type.Ptr n) value h = leads_more n value h
    by_more other value h = tt

    pub all_more : (types : List LlType) (values : List Value) → AllLead p blocks statics types values → AllLead p more after types values
    all_more types values h = λ a t e. by_more t (read values a) (h a t e)

    pub block_more : (block : Block) → BlockLeads p blocks statics block → BlockLeads p more after block
    block_more block h = record { fields = all_more _ block.fields h.fields; items = λ i t e. by_more t (read block.items i) (h.items i t e) }

    pub stand_more : StaticsStand p statics → StaticsStand p after
    stand_more stand = λ s static e. go s static (stand s static e)
      where
        go : (s : ℕ) (static : CStatic) → ((block : Block) × (slice_get statics s ≡ Some block) × (block.kind ≡ static.kind)) → (block : Block) × (slice_get after s ≡ Some block) × (block.kind ≡ static.kind)
        go s static (block, is, same) = let k : Kept (slice_get after s) block.kind = grows.each_static s block is in (k.block, k.is, k.same ∙ same)

  pub slots_more : (slots : Slots) (core next : Core) → Grows core.blocks core.statics next.blocks next.statics → next.exc_type ≡ core.exc_type → next.exc_value ≡ core.exc_value → SlotsLead p slots core → SlotsLead p slots next
  slots_more None core next grows a b h = (a ∙ h.0, b ∙ h.1)
  slots_more (Some (k, v)) core next grows a b h = (
    subst (Leads p next.blocks next.statics k) (sym a) (leads_more core.blocks core.statics next.blocks next.statics grows k core.exc_type h.0),
    subst (Leads p next.blocks next.statics v) (sym b) (leads_more core.blocks core.statics next.blocks next.statics grows v core.exc_value h.1),
  )

  pub frames_more : (slots : Slots) (core next : Core) → Grows core.blocks core.statics next.blocks next.statics → (result : LlType) (frames : List Frame) → FramesLead p slots core result frames → FramesLead p slots next result frames
  frames_more slots core next grows result [] h = tt
  frames_more slots core next grows result (frame ∷ frames) (g, w, h) = (
    g,
    record { of = w.of; vars = all_more core.blocks core.statics next.blocks next.statics grows g.types frame.vars w.vars; into = w.into; ops = w.ops; exit = w.exit },
    frames_more slots core next grows g.result frames h,
  )

  -- the same where another graph runs, or at another place
  pub same_memory : (slots : Slots) (core : Core) (function block at : ℕ) (vars : List Value) (steps : ℕ) → MemoryLeads p slots core
      → MemoryLeads p slots (record core { function = function; block = block; at = at; vars = vars; steps = steps })
  same_memory slots core function block at vars steps m = record {
    each = m.each;
    each_static = m.each_static;
    stand = m.stand;
    held = slots_more slots core (record core { function = function; block = block; at = at; vars = vars; steps = steps }) (grows_same core.blocks core.statics) refl refl m.held;
  }

  -- ---- values

  module _ (blocks : List (Option Block)) (statics : List Block) where
    pub vars_set : (types : List LlType) (vars : List Value) (a : ℕ) (t : LlType) (value : Value) → AllLead p blocks statics types vars → slice_get types a ≡ Some t → LeadsBy p blocks statics t value
        → AllLead p blocks statics types (slice_set vars a value)
    vars_set types vars a t value fit is h = λ b u e. at b u e (set_at vars a b value Unset)
      where
        at : (b : ℕ) (u : LlType) → slice_get types b ≡ Some u → (slice_index_or (slice_set vars a value) b Unset ≡ slice_index_or vars b Unset) ⊎ ((a ≡ b) × (slice_index_or (slice_set vars a value) b Unset ≡ value))
            → LeadsBy p blocks statics u (read (slice_set vars a value) b)
        at b u e (inl same) = subst (LeadsBy p blocks statics u) (sym same) (fit b u e)
        at b u e (inr new) =
            let f : Some t ≡ Some u = sym is ∙ ap (slice_get types) new.0 ∙ e in let g : t ≡ u = cc in subst (LeadsBy p blocks statics u) (sym new.1) (subst (λ t. LeadsBy p blocks statics t value) g h)

    pub unset_leads : (t : LlType) → LeadsBy p blocks statics t Unset
    unset_leads (type.Ptr n) = tt
    unset_leads other = tt

    pub unary_leads : (o : CUnary) (value : Value) → LeadsBy p blocks statics (unary_gives o) value
    unary_leads one.Not value = tt
    unary_leads one.S2C value = tt
    unary_leads other value = tt

    pub binary_leads : (o : CBinary) (value : Value) → LeadsBy p blocks statics (binary_gives o) value
    binary_leads o value = by (gives_bool o)
      where
        by : (b : Bool) → LeadsBy p blocks statics (if b then type.Bool else type.Signed) value
        by true = tt
        by false = tt

    module _ (structs : structs_ok p.structs 0 p.structs ≡ true) (stand : StaticsStand p statics) where
      cast_leads : (n g : ℕ) (o : Option CStatic) → slice_get p.statics g ≡ o → is_cast p.structs (kind_of o) n ≡ true → Leads p blocks statics n (Static g)
      cast_leads n g None e h = absurd (cc)
      cast_leads n g (Some static) e h = go (stand g static e)
        where
          go : ((block : Block) × (slice_get statics g ≡ Some block) × (block.kind ≡ static.kind)) → Leads p blocks statics n (Static g)
          go (block, is, same) = (block, is, ap (λ kind. begins_with (shapes_of p.structs) kind n) same ∙ begins_so p.structs structs static.kind n h)

      pub constant_leads : (below : ℕ) (t : LlType) (c : CConst) → is_of p below t c ≡ true → LeadsBy p blocks statics t (constant c)
      constant_leads below (type.Ptr n) constant.Null e = tt
      constant_leads below (type.Ptr n) (constant.Static s g) e =
          let same : n ≡ s = is_same n s (and_left _ _ (and_left _ _ e)) in
          subst (λ n. Leads p blocks statics n (Static g)) (sym same) (cast_leads s g (slice_get p.statics g) refl (and_right ((n == s) && nat_lt g below) _ e))
      constant_leads below (type.Ptr n) other e = absurd (cc)
      constant_leads below other c e = tt

      pub operand_leads : (types : List LlType) (vars : List Value) → AllLead p blocks statics types vars → (t : LlType) (x : COperand) → takes p types t x ≡ true → LeadsBy p blocks statics t (operand vars x)
      operand_leads types vars fit t (Var v) e = fit v t (has_type_is t (slice_get types v) e)
      operand_leads types vars fit t (Const c) e = constant_leads _ t c e
