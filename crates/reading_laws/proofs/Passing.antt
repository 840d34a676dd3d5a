-- What links pass on is tidy.
use Rattle.std.proofs.Common.{◌≡◌, ℕ, zero, suc, ◌+◌, ◌==◌, Bool, true, false, List, [], ◌∷◌, ◌++◌, length, slice_get, Option, Some, None, refl, sym, ◌∙◌, subst}
use Rattle.std.specs.Prelude.{if◌then◌else◌}
use Rattle.std.proofs.lemmas.List.{append_cancel_left}
use Rattle.csub_tree.specs.declared.tree.COperand.{COperand}
use Rattle.ll_code.specs.declared.program.LlType.{LlType}
use Rattle.ll_code.specs.declared.program.LlType.TheVariants as type
use Rattle.ll_code.specs.declared.program.LlProgram.{LlProgram}
use Rattle.ll_live.specs.Live.{variables_of}
use Rattle.flow_graph.specs.declared.graph.Link.{Link}
use Rattle.rtyper_data.specs.declared.found.Found.{Found}
use Rattle.rtyper_data.specs.Converting.{default_constant, default_operand}
use Rattle.rtyper_data.specs.Finding.{same_type}
use Rattle.rtyper_data.specs.Seen.{Writing}
use Rattle.rtyper_program.specs.declared.links.Caught.{Caught}
use Rattle.rtyper_program.specs.Links.{arguments, inputs_at, link_of, passed, read_as, with_argument, with_passed}
use Rattle.rtyper_program.specs.Seen.{Lowered, type_at}
use Rattle.throw_laws.specs.Ready.{AllFit}
use Rattle.catch_laws.proofs.Reading.{left_in, right_in}
use Rattle.reading_laws.specs.Operations.{ConversionsFit}
use Rattle.reading_laws.specs.Tidy.{AreSet, CallsGive, IsSet, Setup, Stands, Tidy, Wider}
use Rattle.reading_laws.proofs.Steps.{all_more, as_tidy, both_set, held, more, nothing, still, then_tidy}
use Rattle.reading_laws.proofs.Values.{value_as_tidy}

-- the variables that stand for what a link passes on
abbrev pub read_from : Lowered → Option Caught → List ℕ → List ℕ
read_from l caught [] = []
read_from l caught (v ∷ args) = variables_of (read_as l caught v).0 ++ read_from l caught args

module _ (l : Lowered) (caught : Option Caught) where
  -- each that is passed on is set
  abbrev pub AreRead : List ℕ → List ℕ → Type 0
  AreRead [] s = Unit {0}
  AreRead (v ∷ args) s = IsSet (read_as l caught v).0 s × AreRead args s

  read_more : {s t : List ℕ} (args : List ℕ) → Wider s t → AreRead args s → AreRead args t
  read_more [] m h = tt
  read_more (v ∷ args) m h = (more m h.0, read_more args m h.1)

  all_read : (args : List ℕ) → AreRead args (read_from l caught args)
  all_read [] = tt
  all_read (v ∷ args) = (record { it = λ u k. left_in u (variables_of (read_as l caught v).0) (read_from l caught args) k }, read_more args (record { it = λ u k. right_in u (variables_of (read_as l caught v).0) (read_from l caught args) k }) (all_read args))

  abbrev IsRead : Option ℕ → List ℕ → Type 0
  IsRead None s = Unit {0}
  IsRead (Some v) s = IsSet (read_as l caught v).0 s

  read_at : (s : List ℕ) (args : List ℕ) (n : ℕ) → AreRead args s → IsRead (slice_get args n) s
  read_at s [] n h = tt
  read_at s (v ∷ args) zero h = h.0
  read_at s (v ∷ args) (suc n) h = read_at s args n h.1

  module _ {f : Setup} (c : Stands f) where
    passed_tidy : {s : List ℕ} (v : Option ℕ) (to : LlType) (w : Writing) → IsRead v s → Tidy f s ((passed l caught v to w).0 ∷ []) w (passed l caught v to w).1
    passed_tidy {s} None to w h = still (default_operand to ∷ []) (held (default_constant to) s, tt)
    passed_tidy (Some v) to w h = value_as_tidy c l.world.around.layout (read_as l caught v).0 (read_as l caught v).1 to w h

    with_argument_tidy : {s : List ℕ} {w : Writing} (b : Bool) (v : Option ℕ) (to : LlType) (made : List COperand × Writing) → IsRead v s → Tidy f s made.0 w made.1
        → Tidy f s (if b then made else with_passed made.0 (passed l caught v to made.1)).0 w (if b then made else with_passed made.0 (passed l caught v to made.1)).1
    with_argument_tidy true v to made h one = one
    with_argument_tidy false v to made h one = then_tidy one (λ t m k. as_tidy _ (passed_tidy v to made.1 (later v m h)) (λ u n j. both_set u made.0 _ (all_more made.0 n k) j))
      where
        later : {s t : List ℕ} (v : Option ℕ) → Wider s t → IsRead v s → IsRead v t
        later None m h = tt
        later (Some v) m h = more m h

    arguments_tidy : {s : List ℕ} {w : Writing} (args : List ℕ) (n : ℕ) (inputs : List ℕ) (made : List COperand × Writing) → AreRead args s → Tidy f s made.0 w made.1
        → Tidy f s (arguments l caught args n inputs made).0 w (arguments l caught args n inputs made).1
    arguments_tidy args n [] made h one = one
    arguments_tidy {s} args n (v ∷ inputs) made h one = arguments_tidy args (n + 1) inputs (with_argument l caught (slice_get args n) (type_at l v) made) h (with_argument_tidy (same_type (type_at l v) type.Void) (slice_get args n) (type_at l v) made (read_at s args n h) one)

    pub link_tidy : {s : List ℕ} (link : Link) (w : Writing) → AreRead link.args s → Tidy f s (link_of l caught link w).0.args w (link_of l caught link w).1
    unfolding link_of
    link_tidy link w h = arguments_tidy link.args 0 (inputs_at l link.to) ([], w) h nothing

-- no place takes anything
abbrev placeless : Lowered → LlProgram → ℕ → Found → Found → Setup
placeless l p size first last = record { program = p; size = size; first = first; last = last; world = l.world; place = record { variable = 0; element = None } }

pub conversions_fit : ConversionsFit
conversions_fit l caught link w written p size first last e calls enough g h =
    let c : Stands (placeless l p size first last) = record { calls = calls; under = λ there. absurd (there refl) } in
    let t : Tidy (placeless l p size first last) (read_from l caught link.args) (link_of l caught link w).0.args w (link_of l caught link w).1 = link_tidy l caught c link w (all_read l caught link.args) in
    subst (λ ops. AllFit p size ops) (append_cancel_left w.body.ops t.ops written (sym t.written ∙ e)) (t.fits g h enough)
