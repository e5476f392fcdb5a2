-- The words that this crate's proofs say: each is handed on from where it is defined.
pub use Rattle.std.proofs.Common.{[], ℕ, ◌%◌, ◌&&◌, ◌*◌, ◌++◌, ◌+◌, ◌-◌, ◌/◌, ◌<◌, ◌^◌, ◌||◌, ◌∙◌, ◌∷◌, ◌≡◌, ◌≢◌, ◌≤◌, ◌⊎◌, ap, arith, Bool, cond, drop, eqb, false, get_or, inl, inr, is_some, length}
pub use Rattle.std.proofs.Common.{List, ltb, map, max, min, None, not, Option, refl, replicate, rules, set, Some, subst, suc, sym, take, true, zero}
pub use Rattle.std.proofs.lemmas.Bool.{and_right, cases_eq, cases_lt, eq-eqb, false≢true, le-ltb, lt-ltb, ne_eqb, or_right}
pub use Rattle.std.proofs.lemmas.List.{append-nil, append_assoc, get_or-drop, get_or-set_same, get_or-take, length-append, length-drop, length-replicate, length-take-le}
pub use Rattle.std.proofs.lemmas.Option.{same_Some}
pub use Rattle.std.specs.Cmp.{nat_cmp_total, unsigned_tied}
pub use Rattle.std.specs.FinMap.{contains_key-keys, empty, FinMap, get, get-empty, get-insert, insert, keys, len, len-empty, len-insert, nat_cmp-IsAntisymmetric, same_map}
pub use Rattle.std.specs.List.{list_any, range_with_len}
pub use Rattle.std.specs.Ordering.{eq_by_cmp, nat_cmp}
pub use Rattle.std.specs.Prelude.{IsSome, option_map, slice_index}
pub use borrow.Rule.Slice.PartMut.{Post-is, post_of, put_mid}
pub use Rattle.xk_base.proofs.Bytes.{has-write_image, write_image-append, write_image-nil, write_image-page}
pub use Rattle.xk_base.proofs.Frames.{at, at-le, at-other, at-same, copies-cons, copies-nil, copies-one, length-once, length-same, Once-less, Once-more, same-cons, SameFrames}
pub use Rattle.xk_base.proofs.Gathered.{gathered-get, tie-no, tie-yes}
pub use Rattle.xk_base.proofs.Maps.{get_other, get_same, insert-twice}
pub use Rattle.xk_base.proofs.Options.{none_either_way, none_from_is_some}
pub use Rattle.xk_base.specs.Access.{data_rights, is_perm}
pub use Rattle.xk_base.specs.Bytes.{byte_in, HasPage, image_byte, image_bytes, write_image}
pub use Rattle.xk_base.specs.Frames.{copies, Once}
pub use Rattle.xk_base.specs.Image.{groups, Image, no_pages, Page, with_page}
unfoldable pub use Rattle.xk_base.specs.Image.{price, some_below}
unfoldable pub use Rattle.xk_base.specs.Words.{count_below}
pub use Rattle.xk_base.specs.declared.access.Access.{Access}
pub use Rattle.xk_base.specs.declared.access.Rights.{Rights}
pub use Rattle.phys_ram.proofs.Words.{others_stay-set, word_at-same, word_at-zero}
pub use Rattle.phys_ram.specs.Ram.{frame_at, OthersStay, with_bytes, word_at, WordWritten}
unfoldable pub use Rattle.phys_ram.specs.Ram.{zero_frame}
pub use Rattle.sv39_core.proofs.Listings.{listed-more, listed-same}
pub use Rattle.sv39_core.proofs.Owned.{hung-owned-lower, hung-owned-upper, Kept, kept-image, kept-owned, kept-pages, kept-tables, leaf-owned, page_of-same}
pub use Rattle.sv39_core.proofs.Places.{below-some, lower-entry, lower-place, no-lower, one-page, page-apart, page-owned, page-place, root-inside, spot-of, table-owned, upper-entry, upper-place}
pub use Rattle.sv39_core.proofs.Tree.{entry-here, entry-other, Hung, hung-here, hung-others, hung-pages, leaf-here, leaf-others, leaf-tables, Spot, up}
pub use Rattle.sv39_core.proofs.Words.{entry_of-leaf_word, entry_of-table, entry_of-table_word, entry_of-zero, leaf-perm}
pub use Rattle.sv39_core.specs.Listed.{insert_some, push_some}
unfoldable pub use Rattle.sv39_core.specs.Listed.{gathered, listed}
pub use Rattle.sv39_core.specs.Sv39.{allowed, below, entry_at, entry_of, entry_permits, flag, given, is_canonical, last, leaf_word, page_entry, table_at, table_of, table_word}
unfoldable pub use Rattle.sv39_core.specs.Sv39.{walked}
pub use Rattle.sv39_core.specs.Tree.{frame_of, IsTree, page_at, page_of}
unfoldable pub use Rattle.sv39_core.specs.Tree.{lowers, owned, page_frames, pages_of, uppers}
pub use Rattle.sv39_core.specs.declared.entry.Entry.{Entry}
pub use Rattle.sv39_core.specs.declared.entry.Entry.TheVariants.{Invalid, Leaf, Table}
pub use Rattle.frame_list.proofs.FreeList.{free_in-written, Good-written}
pub use Rattle.frame_list.proofs.Trades.{given-free, taken-free, trade-join, trade-lengths}
pub use Rattle.frame_list.specs.Pool.{free_in, Good}
pub use Rattle.frame_list.specs.Traded.{Given, Taken, Traded}
pub use Rattle.frame_list.specs.declared.Pool.{Pool}
pub use Rattle.addr_space.specs.Absent.{bring, grown_lazily, is_absent, is_among, pages_at, whole}
unfoldable pub use Rattle.addr_space.specs.Absent.{all_pages, brought}
pub use Rattle.addr_space.specs.Changes.{add_absent, filled, overwritten, perm_of_page, protected, zeroed}
unfoldable pub use Rattle.addr_space.specs.Changes.{with_absent}
pub use Rattle.addr_space.specs.InPlace.{WrittenInPlace}
pub use Rattle.addr_space.specs.Permits.{page_permits}
pub use Rattle.addr_space.specs.Space.{Belongs, Changed, frames_of, image_of, Isolation, IsSpace, IsStranger, Made, NoneEmpty, Spared, Unchanged, Usual}
pub use Rattle.addr_space.specs.Steps.{Beside, Cleared, Freed, Hanging, Holds, missing, PageAdded, Placing, SameImage}
unfoldable pub use Rattle.addr_space.specs.Steps.{rise}
pub use Rattle.addr_space.specs.Translations.{TranslationsStay, WalksStay, WalksStayBelow, WalksStayBeside}
pub use Rattle.addr_space.specs.declared.Space.{Space}
