-- A block whose parts are done, also where its exit catches.
use Rattle.std.proofs.Common.{◌≡◌, ◌≤◌, inl, inr, ℕ, ◌+◌, Bool, true, List, [], ◌∷◌, ◌++◌, length, Option, Some, None, sym, ap, ◌∙◌, subst, arith, append_assoc}
use Rattle.std.specs.Prelude.{slice_get, if◌then◌else◌}
use Rattle.std.proofs.lemmas.List.{length-append}
use Rattle.ll_code.specs.declared.program.LlType.{LlType}
use Rattle.ll_code.specs.declared.program.LlOp.{LlOp}
use Rattle.ll_code.specs.declared.program.LlExit.{LlExit}
use Rattle.ll_code.specs.declared.program.LlBlock.{LlBlock}
use Rattle.ll_code.specs.declared.program.LlLink.{LlLink}
use Rattle.ll_code.specs.declared.program.LlProgram.{LlProgram}
use Rattle.ll_build.specs.declared.needs.Numbers.{Numbers}
use Rattle.flow_graph.specs.declared.graph.Block.{Block}
use Rattle.flow_graph.specs.declared.graph.Exit.{Exit}
use Rattle.flow_graph.specs.declared.graph.Exit.TheVariants as exit
use Rattle.flow_graph.specs.declared.graph.Graphs.{Graphs}
use Rattle.flow_graph.specs.declared.graph.Link.{Link}
use Rattle.flow_graph.specs.declared.graph.Op.{Op}
use Rattle.rtyper_layout.specs.Types.{root_of}
use Rattle.rtyper_data.specs.declared.body.Body.{Body}
use Rattle.rtyper_data.specs.declared.found.Found.{Found}
use Rattle.rtyper_data.specs.Seen.{Writing, fresh, writing}
use Rattle.rtyper_class.specs.Seen.{laid}
use Rattle.rtyper_program.specs.declared.extra.Extra.{Extra}
use Rattle.rtyper_program.specs.Blocks.{before, block_of, ended, exit_of, op_of, ops_of}
use Rattle.rtyper_program.specs.Cuts.{any_raises, caught_in, on_raise, raised_before}
use Rattle.rtyper_program.specs.Graphs.{variables}
use Rattle.rtyper_program.specs.Handlers.{Work, work}
use Rattle.rtyper_program.specs.Links.{goto, link_of, typed}
use Rattle.rtyper_program.specs.Raises.{catches}
use Rattle.rtyper_program.specs.Seen.{Lowered}
use Rattle.growth_laws.specs.Growing.{Grows}
use Rattle.growth_laws.proofs.Data.{then_grows}
use Rattle.program_asks.proofs.WritingBlocks.{op_grows}
use Rattle.program_asks.proofs.WritingLinks.{either, link_grows, taken_grows}
use Rattle.object_laws.specs.Done.{HasLayout}
use Rattle.object_laws.specs.Known.{Known as Seen}
use Rattle.run_laws.specs.Points.{Setting}
use Rattle.run_laws.specs.Does.{Does}
use Rattle.block_laws.specs.Operations.{HasTypes}
use Rattle.block_laws.specs.Links.{setting, HasBlocks}
use Rattle.throw_laws.specs.Ready.{AllFit}
use Rattle.catch_laws.specs.Caught.{IsTold}
use Rattle.catch_laws.specs.Exits.{DoesSo, quiet_by}
use Rattle.catch_laws.specs.Handlers.{IsPlaced}
use Rattle.catch_laws.proofs.Exiting.{exits_catch}
use Rattle.rtyped_runs.proofs.Blocks.{block_written}
use Rattle.rtyped_runs.specs.Parts.{BlockIsDone}
use Rattle.catch_runs.specs.Parts.{BlockCatches, BlockIsDoneSo, OpMayThrow, WaysAreDone}

module _ (l : Lowered) where
  raised_grows : (v : ℕ) (hands : List (ℕ × Link)) (by : Option Link) (least : ℕ) (e : Extra) (last : LlLink × Writing) → Grows last.1.found (raised_before l v hands by least e last).1.writing.found
  raised_grows v hands by least e last =
      let made : ℕ × Body = fresh (root_of (laid l.world 0)) last.1.body in taken_grows l (caught_in l v hands by made) hands by (work (writing last.1.found made.1) e)

  on_raise_grows : (v : ℕ) (hands : List (ℕ × Link)) (by : Option Link) (without : Link) (least : ℕ) (w : Work) → Grows w.writing.found (on_raise l v hands by without least w).1.writing.found
  unfolding on_raise
  on_raise_grows v hands by without least w =
      either w.writing.found (λ (made : LlExit × Work). made.1.writing.found) (any_raises w.writing.found least w.writing.body.ops) _ _
      (then_grows (link_grows l None without w.writing) (raised_grows v hands by least w.extra (link_of l None without w.writing))) (link_grows l None without w.writing)

  -- the block of one operation and an exit that catches
  caught_is : (b : Block) (w : Work) (o : Op) (v : ℕ) (hands : List (ℕ × Link)) (any : Option Link) (without : Link) → b.ops ≡ o ∷ [] → b.exit ≡ exit.OnRaise v hands any without → catches l.graph hands any ≡ true
      → block_of l b w ≡ ended (typed l b.inputs) (on_raise l v hands any without (length w.writing.body.ops) (work (op_of l o w.writing) w.extra))
  unfolding block_of exit_of
  caught_is b w o v hands any without ops_are exit_is h =
      ap (λ (ops : List Op). ended (typed l b.inputs) (exit_of l b.exit (ops_of l ops w.writing).0 (work (ops_of l ops w.writing).1 w.extra))) ops_are
      ∙ ap (λ (x : Exit). ended (typed l b.inputs) (exit_of l x (length w.writing.body.ops) (work (op_of l o w.writing) w.extra))) exit_is
      ∙ ap (λ (c : Bool). ended (typed l b.inputs) (if c then on_raise l v hands any without (length w.writing.body.ops) (work (op_of l o w.writing) w.extra) else before w.extra (goto (link_of l None without (op_of l o w.writing))))) h

module _ (l : Lowered) (seen : Seen) (graphs : Graphs) (p : LlProgram) (arguments : List (List ℕ)) (numbers : Numbers) (first last : Found) (has : HasLayout p l.world.around.layout)
    (types : HasTypes (setting l seen graphs p arguments) l.number (length (variables l.known l.world l.number)))
    (graph : slice_get graphs.graphs l.number ≡ Some l.graph) (blocks : HasBlocks (setting l seen graphs p arguments) l)
    (told : (found : Found) → Grows first found → Grows found last → IsTold (setting l seen graphs p arguments) (quiet_by found)) where
  abbrev pub s : Setting
  s = setting l seen graphs p arguments

  abbrev pub below : ℕ
  below = length (variables l.known l.world l.number)

  -- what a block is written as, behind what was there
  pub record BlockWrittenSo (b : Block) (w : Work) : Type 0 where
    pub ops : List LlOp
    pub new : List LlType
    pub end : LlExit
    pub is : (block_of l b w).0 ≡ record { inputs = typed l b.inputs; ops = w.writing.body.ops ++ ops; exit = end }
    pub added : (block_of l b w).1.writing.body.types ≡ w.writing.body.types ++ new
    pub does : IsPlaced s l (block_of l b w).1 → Does s l.number b.inputs b.ops b.exit ops end

  module _ (b : Block) (w : Work) (early : Grows first w.writing.found) (late : Grows (block_of l b w).1.writing.found last) (enough : below ≤ length w.writing.body.types) where
    plain : BlockIsDone s numbers l first last b → BlockWrittenSo b w
    plain done =
        let it = block_written l seen graphs p arguments numbers first last has types graph blocks b w done early late enough in
        let count : length (block_of l b w).1.writing.body.types ≡ length w.writing.body.types + length it.new = ap (λ (ts : List LlType). length ts) it.added ∙ length-append w.writing.body.types it.new in
        record { ops = it.ops; new = it.new; end = it.end; is = it.is; added = it.added; does = λ placed. it.does (let r = placed.room in omega (arith, r, count)) }

    fit_both : (n : ℕ) (xs ys : List LlOp) → AllFit p n xs → AllFit p n ys → AllFit p n (xs ++ ys)
    fit_both n [] ys h k = k
    fit_both n (x ∷ xs) ys h k = (h.0, fit_both n xs ys h.1 k)

    module _ (done : BlockCatches s numbers l first last b) where
      abbrev behind : Writing
      behind = op_of l done.o w.writing

      abbrev made : LlExit × Work
      made = on_raise l done.v done.hands done.any done.without (length w.writing.body.ops) (work behind w.extra)

      block_is : block_of l b w ≡ ended (typed l b.inputs) made
      block_is = caught_is l b w done.o done.v done.hands done.any done.without done.ops done.exit done.catches_it

      late_made : Grows made.1.writing.found last
      late_made = subst (λ (x : LlBlock × Work). Grows x.1.writing.found last) block_is late

      late_op : Grows behind.found last
      late_op = then_grows (on_raise_grows l done.v done.hands done.any done.without (length w.writing.body.ops) (work behind w.extra)) late_made

      early_op : Grows first behind.found
      early_op = then_grows early (op_grows l done.o w.writing)

      early_made : Grows first made.1.writing.found
      early_made = then_grows early_op (on_raise_grows l done.v done.hands done.any done.without (length w.writing.body.ops) (work behind w.extra))

      op_is : OpMayThrow s l b.inputs done.o w.writing
      op_is = done.does w.writing early late_op enough

      count : length behind.body.types ≡ length w.writing.body.types + length op_is.does.new
      count = ap (λ (ts : List LlType). length ts) op_is.does.types ∙ length-append w.writing.body.types op_is.does.new

      ways : WaysAreDone s numbers l b.inputs done.o done.v done.hands done.any done.without behind w.extra (length w.writing.body.ops)
      ways = done.ways (length w.writing.body.ops) behind w.extra early_op late_made (omega (arith, enough, count))

      does_so : DoesSo s l b.inputs done.o (exit.OnRaise done.v done.hands done.any done.without) w.writing.body.ops behind made
      does_so = exits_catch l seen graphs p arguments numbers below (length w.writing.body.types) (length op_is.does.new) b.inputs done.o done.v done.hands done.any done.without w.writing.body.ops op_is.does.ops behind w.extra
          (record { layout = has; types = types; graph = graph; blocks = blocks; classes = done.classes }) enough
          (record { ops = op_is.does.written; types = omega (arith, count); is = op_is.does.is; are_read = op_is.are_read; fresh = done.fresh; inside = op_is.inside })
          (record { new = done.new; own = ways.own; way = ways.way; conversions = ways.conversions; are = ways.are; fits = λ room passed. fit_both (s.size l.number) op_is.does.ops ways.conversions (op_is.fits room) (ways.fits passed); any_done = ways.any_done; hands_done = ways.hands_done })

      catching : BlockWrittenSo b w
      catching = record {
        ops = does_so.left;
        new = op_is.does.new ++ does_so.new;
        end = made.0;
        is = ap (λ (x : LlBlock × Work). x.0) block_is ∙ ap (λ (ops : List LlOp). record { inputs = typed l b.inputs; ops = ops; exit = made.0 }) does_so.written;
        added = ap (λ (x : LlBlock × Work). x.1.writing.body.types) block_is ∙ does_so.types ∙ ap (λ (ts : List LlType). ts ++ does_so.new) op_is.does.types ∙ append_assoc w.writing.body.types op_is.does.new does_so.new;
        does = λ placed.
            let here : IsPlaced s l (ended (typed l b.inputs) made).1 = subst (λ (x : LlBlock × Work). IsPlaced s l x.1) block_is placed in
            subst (λ (ops : List Op). Does s l.number b.inputs ops b.exit does_so.left made.0) (sym done.ops)
            (subst (λ (x : Exit). Does s l.number b.inputs (done.o ∷ []) x does_so.left made.0) (sym done.exit)
            (does_so.does (record { number = here.number; is = here.is; graph = here.graph; stands = here.stands; extra = here.extra; room = here.room }) (told behind.found early_op late_op) (told made.1.writing.found early_made late_made)));
      }

    pub block_written_so : BlockIsDoneSo s numbers l first last b → BlockWrittenSo b w
    block_written_so (inl done) = plain done
    block_written_so (inr done) = catching done
