-- What calls of the graphs leave.
use Rattle.std.proofs.Common.{◌≡◌, ◌<◌, ◌≤◌, ◌⊎◌, inl, inr, ℕ, ◌+◌, List, ◌∷◌, ◌++◌, length, Some, ap, arith, length-append}
use Rattle.std.specs.Prelude.{slice_get}
use Rattle.csub_tree.specs.State.{Value, Core}
use Rattle.ll_code.specs.declared.program.LlProgram.{LlProgram}
use Rattle.ll_leads.proofs.Joined.{leads_more}
use Rattle.rpy_tree.specs.Value.{Value as Meant}
use Rattle.rtyper_layout.specs.declared.dicts.Mapping.{Mapping}
use Rattle.rtyper_layout.specs.declared.layout.Layout.{Layout}
use Rattle.rtyper_data.specs.declared.small.Keyed.TheVariants as keyed
use Rattle.rtyper_dict.specs.Graphs.{changing, dict_graph}
use Rattle.rtyper_dict.specs.Indexing.{size}
use Rattle.object_laws.specs.Dicts.{Arrays, Lacks}
use Rattle.object_laws.specs.Ghost.{Ghost}
use Rattle.object_laws.specs.Known.{Known}
use Rattle.object_laws.proofs.Growing.{grown_none}
use Rattle.dict_op_laws.specs.Asked.{HasKeyed}
use Rattle.dict_change_laws.specs.Called.{LengthsAreReckoned, RoomIsMade, EntriesAreAdded, EntriesAreTakenOut}
use Rattle.dict_change_laws.proofs.Adding.{added}
use Rattle.dict_change_laws.proofs.Asking.{adds_by, grows_by, removes_by}
use Rattle.dict_change_laws.proofs.Growing.{makes_room}
use Rattle.dict_laws.proofs.Masked.{indices_are_longer}
use Rattle.dict_change_laws.proofs.Pairs.{split, is_new}
use Rattle.dict_change_laws.proofs.Removing.{removed}
use Rattle.dict_change_laws.proofs.Sizing.{sized}

size_is : (p : LlProgram) (layout : Layout) (f : ℕ) → HasKeyed p layout keyed.Size f → slice_get p.graphs f ≡ Some size
unfolding dict_graph changing
size_is p layout f h = h.graph

pub lengths_are_reckoned : LengthsAreReckoned
lengths_are_reckoned layout p args f places core has few =
    let longer = indices_are_longer places few in
    (longer.0.0, (longer.1 longer.0.0 longer.0.1, λ waits. (let it = sized p args f (size_is p layout f has) waits core places longer.0.0 few longer.0.1 in record { end = it.end; same = it.same; leads = it.leads })))

pub room_is_made : RoomIsMade
room_is_made layout known p numbers raised args n f m before core g heap left i head mapping keys structs has stands home d there few =
    let it = makes_room p args layout known structs n m mapping f (grows_by layout n m mapping p args known keys structs numbers raised before f has) g heap left core stands i head home d there few in
    record {
      blocks = it.blocks;
      statics = it.statics;
      ghost = it.ghost;
      grown = it.grown;
      holds = record { stands = it.roomy.stands; dict = it.roomy.dict; same = it.roomy.same; room = it.roomy.room };
      few = it.few;
      returns = λ waits. (let r = it.returns waits in (r.end, (r.same, r.leads)));
    }

-- a dict with a place has arrays
arrays_of : {layout : Layout} {known : Known} {g : Ghost} (core : Core) {m : Mapping} {i : ℕ} {one two : Value} (pairs : List (Meant × Meant)) (places : ℕ) → length pairs < places
    → Lacks layout known g core.blocks core.statics m i pairs places one two ⊎ Arrays layout known g core.blocks core.statics m i pairs places one two → Arrays layout known g core.blocks core.statics m i pairs places one two
arrays_of core pairs places room (inl a) = absurd (let z = a.no_places in omega (arith, z, room))
arrays_of core pairs places room (inr a) = a

-- and so has one with an entry
kept_arrays : {layout : Layout} {known : Known} {g : Ghost} (core : Core) {m : Mapping} {i : ℕ} {one two : Value} (pairs : List (Meant × Meant)) (places : ℕ) (pre : List (Meant × Meant)) (pair : Meant × Meant) (post : List (Meant × Meant)) → pairs ≡ pre ++ pair ∷ post
    → Lacks layout known g core.blocks core.statics m i pairs places one two ⊎ Arrays layout known g core.blocks core.statics m i pairs places one two → Arrays layout known g core.blocks core.statics m i pairs places one two
kept_arrays core pairs places pre pair post are (inl a) = absurd (let z = ap length a.empty in let q = ap length are in let w = length-append pre (pair ∷ post) in omega (arith, z, q, w))
kept_arrays core pairs places pre pair post are (inr a) = a

pub entries_are_added : EntriesAreAdded
entries_are_added layout known p args n f m core g heap left i head x y k v mapping keys structs has stands home d room new key held =
    let by = adds_by layout n m mapping p args known keys structs f has in
    let it = added p args layout known structs n m mapping f by.0 by.1.0 by.1.1 g heap left core stands i head home d (arrays_of core d.pairs d.places room d.arrays) room x y k v (is_new k d.pairs new) key.held held key.there in
    record {
      blocks = it.blocks;
      statics = it.statics;
      ghost = g;
      grown = grown_none;
      holds = it.stands;
      few = (let q = it.few in omega (arith, q));
      returns = λ waits. (let r = it.returns waits in (r.end, (r.same, r.leads)));
    }

pub entries_are_taken_out : EntriesAreTakenOut
entries_are_taken_out layout known p raised args n f m core g heap left i head k at mapping keys structs has stands home d there place_is =
    let part = split k d.pairs at place_is in
    let it = removed p args layout known structs n m mapping f (removes_by layout n m mapping p args known keys structs raised f has) g heap left core stands i head home d (kept_arrays core d.pairs d.places part.pre part.pair part.post part.are d.arrays) at k part there in
    let few : length part.post ≤ length d.pairs = (let q = ap length part.are in let w = length-append part.pre (part.pair ∷ part.post) in omega (arith, q, w)) in
    record {
      blocks = it.blocks;
      statics = it.statics;
      ghost = g;
      grown = grown_none;
      holds = it.stands;
      few = (let q = it.few in omega (arith, q));
      returns = λ waits. (let r = it.returns waits in (r.end, (r.same, leads_more (length part.post + length part.post) (length d.pairs + length d.pairs) (omega (arith, few)) r.leads)));
    }
