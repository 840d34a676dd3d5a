-- Helpers stand over all memory that represents a heap.
use Rattle.std.proofs.Common.{◌≡◌, ◌<◌, ◌^◌, ℕ, zero, suc, ◌+◌, Bool, true, false, ◌||◌, List, [], ◌∷◌, ◌++◌, length, slice_get, Some, refl, sym, ap, subst, ◌∙◌, arith}
use Rattle.std.specs.Prelude.{cond}
use Rattle.csub_tree.specs.State.{Static, Block, Core}
use Rattle.class_desc.specs.Tables.{Tables}
use Rattle.ll_build.specs.Needs.{names_texts, uses, uses_texts}
use Rattle.ll_build.specs.declared.needs.Need.{Need}
use Rattle.ll_build.specs.declared.needs.Numbers.{Numbers}
use Rattle.ll_code.specs.declared.program.LlProgram.{LlProgram}
use Rattle.ll_helpers.specs.Helpers.{graph_for, shared_graph, table_struct}
use Rattle.ll_helpers.specs.Statics.{texts}
use Rattle.ll_strings.specs.Laws.{number_in}
use Rattle.ll_strings.proofs.Texts.{start_stands}
use Rattle.ll_texts.specs.Texts.{HasStatics, HasText}
use Rattle.rpy_tree.specs.Value.{Heap}
use Rattle.rtyper_data.specs.Finding.{helper_number}
use Rattle.rtyper_raising.specs.Raising.{raising_graph}
use Rattle.rtyper_class.specs.Seen.{World}
use Rattle.rtyper_layout.specs.declared.layout.Layout.{Layout}
use Rattle.rtyper_program.specs.Program.{IsLaid}
use Rattle.rtyper_program.specs.Seen.{Known}
use Rattle.object_laws.specs.Ghost.{Ghost}
use Rattle.object_laws.specs.Known.{Known as Seen}
use Rattle.object_laws.specs.Represents.{Represents}
use Rattle.layout_laws.specs.Statics.{statics_of}
use Rattle.program_asks.specs.Standing.{OnlyAsks, first_in, last_in, numbers_in, world_in}
use Rattle.program_asks.proofs.WritingBlocks.{programs_only_ask}
use Rattle.rtyped_laws.specs.Programs.{layout_for}
use Rattle.rtyped_laws.proofs.Helping.{helpers_have_theirs}
use Rattle.rtyped_laws.proofs.Programs.{asked_is_had, layouts_are_had_by_programs}
use Rattle.raise_laws.proofs.Nothing.{graph_plain}
use Rattle.helper_stands.specs.Standing.{HelpersStandWhole, KnowsTexts, PlainHelpersStand, RaisingHelpersStand}
use Rattle.helper_stands.proofs.Shared.{need_of, shared_stands, statics_first, structs_are}

pub helpers_stand_whole : HelpersStandWhole
helpers_stand_whole known classes layout p r few h found early late =
    let world : World = world_in known classes layout p r in
    let only : OnlyAsks known world = programs_only_ask known world in
    let need = need_of known classes layout r.needs r.caught r.count only r.no_helper_more h found early late in
    let numbers : Numbers = numbers_in known classes layout p r in
    record {
      raising = helpers_have_theirs p known world numbers (first_in known classes layout p r) (last_in known classes layout p r) (asked_is_had known classes layout p r) few h found early late;
      shared = λ g u. subst (λ q. slice_get q.graphs (number_in numbers g) ≡ Some (shared_graph numbers g)) (sym r.written)
          (shared_stands known classes layout r.needs r.caught r.count only (helper_number h found).0 need.0 need.1 g (ap (λ k. uses g k) need.2 ∙ u));
    }

-- ---- static strings

used_texts : (needs : List Need) (i : ℕ) (need : Need) → slice_get needs i ≡ Some need → names_texts need.helper ≡ true → uses_texts needs ≡ true
used_texts [] i need e h = absurd (cc)
used_texts (n ∷ needs) zero need e h = (let q : n ≡ need = cc in ap (λ b. b || uses_texts needs) (ap (λ (n : Need). names_texts n.helper) q ∙ h))
used_texts (n ∷ needs) (suc i) need e h = one (names_texts n.helper) (used_texts needs i need e h)
  where
    one : (b : Bool) → uses_texts needs ≡ true → (b || uses_texts needs) ≡ true
    one true k = refl
    one false k = k

module _ (known : Known) (classes : Tables) (p : LlProgram) (r : IsLaid known classes p) (seen : Seen) (small : length (layout_for known classes).structs < 2 ^ 64) where
  text : HasText p
  text = (layouts_are_had_by_programs known classes p r small).plain.text

  abbrev table : ℕ
  table = length (layout_for known classes).structs

  only_asks : OnlyAsks known (world_in known classes (layout_for known classes) p r)
  only_asks = programs_only_ask known (world_in known classes (layout_for known classes) p r)

  -- at the start
  first_strings : uses_texts r.needs ≡ true → HasStatics p table (statics_of p)
  first_strings used =
      let layout : Layout = layout_for known classes in
      let structs : p.structs ≡ layout.structs ++ table_struct ∷ [] =
      ap (λ (q : LlProgram). q.structs) r.written ∙ structs_are known classes layout r.needs r.caught r.count only_asks ∙ ap (λ b. layout.structs ++ cond b (table_struct ∷ []) []) used in
      let more = statics_first known classes layout r.needs r.caught r.count only_asks in
      let statics : p.statics ≡ texts (length layout.structs) ++ more.0 =
      ap (λ (q : LlProgram). q.statics) r.written ∙ more.1 ∙ ap (λ b. cond b (texts (length layout.structs)) [] ++ more.0) used in
      start_stands p layout.structs [] more.0 structs statics text 0

  -- they stay
  strings_stay : uses_texts r.needs ≡ true → KnowsTexts p seen → (g : Ghost) (heap : Heap) (core : Core) → Represents (layout_for known classes) seen g heap core.steps core.blocks core.statics → HasStatics p table core.statics
  strings_stay used knows g heap core memory =
      let s = first_strings used in
      let there : (i : ℕ) (block : Block) → i < 260 → slice_get (statics_of p) i ≡ Some block → slice_get core.statics i ≡ Some block = (λ i block below e. memory.stays (Static i) block (memory.constants i block (knows i block below e))) in
      record {
        shape = s.shape;
        empty = there 0 _ (omega arith) s.empty;
        singles = λ b h. there (b + 1) _ (omega (arith, h)) (s.singles b h);
        strings = s.strings;
        listed = there 257 _ (omega arith) s.listed;
        count = s.count;
        each = s.each;
        yes = there 258 _ (omega arith) s.yes;
        no = there 259 _ (omega arith) s.no;
      }

pub raising_helpers_stand : RaisingHelpersStand
raising_helpers_stand known classes p r seen few small knows h found early late g heap core memory =
    let layout : Layout = layout_for known classes in
    let whole = helpers_stand_whole known classes layout p r few h found early late in
    let need = need_of known classes layout r.needs r.caught r.count (programs_only_ask known (world_in known classes layout p r)) r.no_helper_more h found early late in
    record {
      raising = whole.raising;
      shared = whole.shared;
      text = text known classes p r seen small;
      statics = λ n. (let used : uses_texts r.needs ≡ true = used_texts r.needs (helper_number h found).0 need.0 need.1 (ap names_texts need.2 ∙ n) in strings_stay known classes p r seen small used (knows used) g heap core memory);
      small = memory.few;
    }

pub plain_helpers_stand : PlainHelpersStand
plain_helpers_stand known classes p r seen few small knows h found none early late g heap core memory =
    let it = raising_helpers_stand known classes p r seen few small knows h found early late g heap core memory in
    let numbers : Numbers = numbers_in known classes (layout_for known classes) p r in
    record {
      graph = it.raising.graph ∙ ap (λ c. Some (raising_graph c (graph_for numbers h) it.raising.made)) none ∙ ap (λ x. Some x) (graph_plain (graph_for numbers h) it.raising.made);
      shared = it.shared;
      text = it.text;
      statics = it.statics;
      small = it.small;
    }
