use Rattle.addr_space.proofs.Prelude.{ℕ, ◌++◌, ◌+◌, ◌-◌, ◌<◌, ◌∙◌, ◌≡◌, ap, arith, drop, frame_at, frame_of, image_of, length, List, overwritten, Page, page-owned, page_at, page_of, Post-is, post_of}
use Rattle.addr_space.proofs.Prelude.{refl, root-inside, rules, same_Some, set, Some, sym, take, with_page, write_image-page}
use Rattle.addr_space.proofs.Pages.{bytes-changed, bytes-image, page-is, still-entries, kept-but}
use Rattle.addr_space.proofs.Isolation.{spared}
use Rattle.addr_space.proofs.Trades.{belongs-after}
use Rattle.addr_space.proofs.Translations.{walks-same}
use Rattle.addr_space.proofs.Prices.{page-got}
use Rattle.addr_space.proofs.Copies.{no-leaf, there-at, set-stays, set-here}
use Rattle.addr_space.proofs.InPlace.{written-in-place}
use Rattle.addr_space.proofs.Space.write_page.Goals as goal

pub entry_of_page-requires-clause-root_in : goal.entry_of_page-requires-clause-root_in
entry_of_page-requires-clause-root_in c = root-inside c.args.ram.now c.args.self.now.root c.requires.whole.tree

pub frame_mut-page-requires : goal.frame_mut-page-requires
frame_mut-page-requires c = c.requires.whole.tree.once.inside c.in-Leaf.frame
    (page-owned c.args.ram.now c.args.self.now.root c.number.result c.in-Leaf.frame c.requires.whole.tree (ap frame_of (sym c.in-Leaf.ensures)))

pub returns-clause-changed : goal.returns-clause-changed
returns-clause-changed c pool b = bytes-changed pool c.args.ram.now _ c.args.self.now c.number.result c.in-Leaf.frame c.in-Leaf.field-1
    c.in-Leaf.field-2 c.in-Leaf.field-3 b (sym c.in-Leaf.ensures) (set-stays c.args.ram.now _ c.in-Leaf.frame _ refl)

pub returns-clause-belongs : goal.returns-clause-belongs
returns-clause-belongs c pool b = belongs-after _ _ _ _ _ _ b (returns-clause-changed c pool b)

pub returns-clause-others : goal.returns-clause-others
returns-clause-others c pool b other s = spared _ _ _ _ _ _ other (returns-clause-changed c pool b).traded s

pub returns-clause-walks : goal.returns-clause-walks
returns-clause-walks c =
    let stay = set-stays c.args.ram.now _ c.in-Leaf.frame _ refl in
    walks-same c.args.ram.now _ c.args.self.now.root (still-entries c.args.ram.now _ c.args.self.now.root stay.count
    (kept-but c.args.ram.now _ c.args.self.now.root c.number.result c.in-Leaf.frame c.in-Leaf.field-1 c.in-Leaf.field-2 c.in-Leaf.field-3
    c.requires.whole.tree (sym c.in-Leaf.ensures) stay))

pub returns-clause-image : goal.returns-clause-image
returns-clause-image c page there =
    let ram = c.args.ram.now in
    let f = c.in-Leaf.frame in
    let old = frame_at ram f in
    let at = c.args.at in
    let bytes = c.args.bytes.now in
    let inside : f < length ram = c.requires.whole.tree.once.inside f (page-owned ram c.args.self.now.root c.number.result f c.requires.whole.tree (ap frame_of (sym c.in-Leaf.ensures))) in
    let new : List ℕ = take at c.frame_mut-page.result.now ++ (c.copy_from_slice.new.self ++ post_of at (at + length bytes - at) c.frame_mut-page.result.now) in
    let is_new : new ≡ take at old ++ (bytes ++ drop (at + length bytes) old) =
    ap (λ xs. take at xs ++ (c.copy_from_slice.new.self ++ post_of at (at + length bytes - at) xs)) c.frame_mut-page.ensures.value
    ∙ ap (λ ys. take at old ++ (ys ++ post_of at (at + length bytes - at) old)) c.copy_from_slice.ensures.after
    ∙ ap (λ zs. take at old ++ (bytes ++ zs)) (Post-is at (at + length bytes) old (omega arith)) in
    let stay = set-stays ram (set ram f new) f new refl in
    let image = bytes-image ram (set ram f new) c.args.self.now c.number.result f c.in-Leaf.field-1 c.in-Leaf.field-2 c.in-Leaf.field-3 c.requires.whole (sym c.in-Leaf.ensures) stay in
    let v : c.number.result ≡ c.args.vpn = c.number.ensures.value in
    let is_page : Some (record { perm = c.in-Leaf.field-1; bytes = old }) ≡ Some page =
    sym (page-is ram c.args.self.now c.number.result f c.in-Leaf.field-1 c.in-Leaf.field-2 c.in-Leaf.field-3 c.requires.whole
    (sym c.in-Leaf.ensures)) ∙ ap (page_at ram c.args.self.now.root) v
    ∙ sym (page-got ram c.args.self.now.root c.args.vpn c.number.ensures.range) ∙ there in
    let same = same_Some {A = Page} (record { perm = c.in-Leaf.field-1; bytes = old }) page is_page in
    image
    ∙ ap (λ b. with_page (image_of ram c.args.self.now) c.number.result (record { perm = c.in-Leaf.field-1; bytes = b })) (set-here ram (set ram f new) f new refl inside ∙ is_new)
    ∙ ap (λ u. with_page (image_of ram c.args.self.now) u (overwritten (record { perm = c.in-Leaf.field-1; bytes = old }) at bytes)) v
    ∙ ap (λ p. with_page (image_of ram c.args.self.now) c.args.vpn (overwritten p at bytes)) same

pub unreachable-requires : goal.unreachable-requires
unreachable-requires c =
    let root = c.args.self.now.root in
    no-leaf c.args.ram.now c.entry_of_page.result c.requires.there.0
    (ap (page_of c.args.ram.now) c.entry_of_page.ensures
    ∙ there-at c.args.ram.now root c.args.vpn c.number.result c.requires.there.0 c.number.ensures.range c.number.ensures.value
    c.requires.there.1) c.in_default.not-Leaf

bytes_of : Page → List ℕ
bytes_of page = page.bytes

pub returns-clause-written : goal.returns-clause-written
unfolding bytes_of
returns-clause-written c =
    let ram = c.args.ram.now in
    let self = c.args.self.now in
    let f = c.in-Leaf.frame in
    let page = c.requires.there.0 in
    let there = c.requires.there.1 in
    let is_page : Some (record { perm = c.in-Leaf.field-1; bytes = frame_at ram f }) ≡ Some page =
    sym (page-is ram self c.number.result f c.in-Leaf.field-1 c.in-Leaf.field-2 c.in-Leaf.field-3 c.requires.whole (sym c.in-Leaf.ensures))
    ∙ there-at ram self.root c.args.vpn c.number.result page c.number.ensures.range c.number.ensures.value there in
    let same : frame_at ram f ≡ page.bytes = ap bytes_of (same_Some {A = Page} (record { perm = c.in-Leaf.field-1; bytes = frame_at ram f }) page is_page) in
    let array : length c.frame_mut-page.result.now ≡ 4096 = search rules in
    let long : length page.bytes ≡ 4096 = ap length (sym (c.frame_mut-page.ensures.value ∙ same)) ∙ array in
    returns-clause-image c page there
    ∙ sym (write_image-page c.args.bytes.now (image_of ram self) c.args.vpn c.args.at page there (omega (arith, long, c.requires.fits)) c.requires.fits)

pub returns-clause-in_place : goal.returns-clause-in_place
returns-clause-in_place c = written-in-place c.args.ram.now _ c.args.self.now c.number.result c.in-Leaf.frame c.in-Leaf.field-1 c.in-Leaf.field-2
    c.in-Leaf.field-3 c.requires.whole (sym c.in-Leaf.ensures) (set-stays c.args.ram.now _ c.in-Leaf.frame _ refl)
