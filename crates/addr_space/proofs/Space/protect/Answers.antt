use Rattle.addr_space.proofs.Prelude.{◌%◌, ◌*◌, ◌+◌, ◌/◌, ◌∙◌, ◌≡◌, ap, arith, false, frame_at, image_of, last, Leaf, leaf_word, None, page_at, page_entry, page_of, protected, Rights, root-inside}
use Rattle.addr_space.proofs.Prelude.{same_Some, Some, subst, sym, table-owned, table_at, with_page, WordWritten}
use Rattle.addr_space.proofs.Clearing.{entry-page}
use Rattle.addr_space.proofs.Pages.{rewritten, perm-changed, perm-image, page-is}
use Rattle.addr_space.proofs.Isolation.{spared}
use Rattle.addr_space.proofs.Trades.{belongs-after}
use Rattle.addr_space.proofs.Translations.{walks-beside}
use Rattle.addr_space.proofs.Prices.{page-got}
use Rattle.addr_space.proofs.Copies.{no-leaf, there-at, leaf-allowed}
use Rattle.addr_space.proofs.Space.protect.Goals.{After-write_u64}
use Rattle.addr_space.proofs.Space.protect.Goals as goal

pub lower_table-requires-clause-root_in : goal.lower_table-requires-clause-root_in
lower_table-requires-clause-root_in c = root-inside c.args.ram.now c.args.self.now.root c.requires.whole.tree

pub read_page_entry-requires : goal.read_page_entry-requires
read_page_entry-requires c = record {
  table_in = c.requires.whole.tree.once.inside c.in-Some.lower
      (table-owned c.args.ram.now c.args.self.now.root 2 (c.number-number.result / 512) c.in-Some.lower c.requires.whole.tree (omega arith)
      (sym c.in-Some.ensures));
}

pub write_u64-requires-clause-frame_in : goal.write_u64-requires-clause-frame_in
write_u64-requires-clause-frame_in c = c.requires.whole.tree.once.inside c.in-Some.lower
    (table-owned c.args.ram.now c.args.self.now.root 2 (c.number-number.result / 512) c.in-Some.lower c.requires.whole.tree (omega arith)
    (sym c.in-Some.ensures))

-- the rights without U
abbrev without_user : Rights → Rights
without_user r = record { read = r.read; write = r.write; execute = r.execute; user = false }

put : (c : After-write_u64) → WordWritten c.args.ram.now c.write_u64.new.self c.in-Some.lower (c.number-number.result % 512)
    (leaf_word c.in-Leaf.frame (record { read = c.in-Leaf.perm.read; write = c.in-Leaf.perm.write; execute = c.in-Leaf.perm.execute; user = false }))
put c =
    subst (λ i. WordWritten c.args.ram.now c.write_u64.new.self c.in-Some.lower i (leaf_word c.in-Leaf.frame (without_user c.in-Leaf.perm))) c.lower_index.ensures
    (subst (λ w. WordWritten c.args.ram.now c.write_u64.new.self c.in-Some.lower c.lower_index.result w)
    (c.bits.ensures ∙ c.leaf.ensures ∙ ap (leaf_word c.in-Leaf.frame) (c.new-kept.ensures ∙ ap without_user c.rights-rights.ensures.value))
    c.write_u64.ensures)

entry : (c : After-write_u64) → page_entry c.args.ram.now c.args.self.now.root (512 * (c.number-number.result / 512) + c.number-number.result % 512)
    ≡ Leaf c.in-Leaf.frame c.in-Leaf.perm c.in-Leaf.field-2 c.in-Leaf.field-3
entry c = entry-page c.args.ram.now c.args.self.now.root (c.number-number.result / 512) c.in-Some.lower (c.number-number.result % 512) (omega arith) (sym c.in-Some.ensures) ∙ sym c.in-Leaf.ensures

pub returns-clause-changed : goal.returns-clause-changed
returns-clause-changed c pool b =
    perm-changed pool c.args.ram.now c.write_u64.new.self c.args.self.now c.in-Some.lower (c.number-number.result % 512)
    (c.number-number.result / 512) c.in-Leaf.frame c.in-Leaf.perm _ c.in-Leaf.field-2 c.in-Leaf.field-3 b (sym c.in-Some.ensures) (omega arith)
    (sym c.in-Leaf.ensures) (put c)
    (leaf-allowed c.args.ram.now c.args.self.now.root _ c.in-Leaf.frame c.in-Leaf.perm c.in-Leaf.field-2 c.in-Leaf.field-3 (entry c)) c.number.ensures.range

pub returns-clause-belongs : goal.returns-clause-belongs
returns-clause-belongs c pool b = belongs-after _ _ _ _ _ _ b (returns-clause-changed c pool b)

pub returns-clause-others : goal.returns-clause-others
returns-clause-others c pool b other s = spared _ _ _ _ _ _ other (returns-clause-changed c pool b).traded s

pub returns-clause-walks : goal.returns-clause-walks
returns-clause-walks c =
    let v : 512 * (c.number-number.result / 512) + c.number-number.result % 512 ≡ c.args.vpn = omega (arith, c.number-number.ensures.value) in
    let r = rewritten c.args.ram.now c.write_u64.new.self c.args.self.now.root c.in-Some.lower (c.number-number.result % 512)
    (c.number-number.result / 512) c.in-Leaf.frame c.in-Leaf.perm
    (without_user c.in-Leaf.perm) c.in-Leaf.field-2 c.in-Leaf.field-3 c.requires.whole.tree (sym c.in-Some.ensures) (omega arith)
    (sym c.in-Leaf.ensures) (put c)
    (leaf-allowed c.args.ram.now c.args.self.now.root _ c.in-Leaf.frame c.in-Leaf.perm c.in-Leaf.field-2 c.in-Leaf.field-3 (entry c)) c.number.ensures.range in
    walks-beside c.args.ram.now c.write_u64.new.self c.args.self.now.root c.args.vpn c.number-number.ensures.range (λ u ne. r.others u (λ e. ne (e ∙ v)))

pub returns-clause-image : goal.returns-clause-image
returns-clause-image c page there =
    let v : 512 * (c.number-number.result / 512) + c.number-number.result % 512 ≡ c.args.vpn = omega (arith, c.number-number.ensures.value) in
    let image = perm-image c.args.ram.now c.write_u64.new.self c.args.self.now c.in-Some.lower (c.number-number.result % 512)
    (c.number-number.result / 512) c.in-Leaf.frame c.in-Leaf.perm
    (record { read = c.in-Leaf.perm.read; write = c.in-Leaf.perm.write; execute = c.in-Leaf.perm.execute; user = false }) c.in-Leaf.field-2
    c.in-Leaf.field-3 c.requires.whole (sym c.in-Some.ensures) (omega arith) (sym c.in-Leaf.ensures) (put c)
    (leaf-allowed c.args.ram.now c.args.self.now.root _ c.in-Leaf.frame c.in-Leaf.perm c.in-Leaf.field-2 c.in-Leaf.field-3 (entry c)) c.number.ensures.range in
    let is_page : Some (record { perm = c.in-Leaf.perm; bytes = frame_at c.args.ram.now c.in-Leaf.frame }) ≡ Some page =
    sym (page-is c.args.ram.now c.args.self.now _ c.in-Leaf.frame c.in-Leaf.perm c.in-Leaf.field-2 c.in-Leaf.field-3 c.requires.whole (entry c))
    ∙ ap (page_at c.args.ram.now c.args.self.now.root) v
    ∙ sym (page-got c.args.ram.now c.args.self.now.root c.args.vpn c.number-number.ensures.range) ∙ there in
    let same : record { perm = c.in-Leaf.perm; bytes = frame_at c.args.ram.now c.in-Leaf.frame } ≡ page = same_Some _ page is_page in
    image ∙ ap (λ u. with_page (image_of c.args.ram.now c.args.self.now) u
    (protected (record { perm = c.in-Leaf.perm; bytes = frame_at c.args.ram.now c.in-Leaf.frame }))) v
    ∙ ap (λ p. with_page (image_of c.args.ram.now c.args.self.now) c.args.vpn (protected p)) same

pub unreachable-requires : goal.unreachable-requires
unreachable-requires c =
    let ram = c.args.ram.now in
    let root = c.args.self.now.root in
    let gone : table_at ram root 2 (c.number-number.result / 512) ≡ None = sym c.lower_table.ensures ∙ c.in_default.is in
    let w : None ≡ Some c.requires.there.0 = sym (ap (λ t. page_of ram (last ram t (c.number-number.result % 512))) gone)
    ∙ there-at ram root c.args.vpn c.number-number.result c.requires.there.0 c.number-number.ensures.range c.number-number.ensures.value
    c.requires.there.1 in
    absurd (cc)

pub unreachable-requires-in_default-read_page_entry : goal.unreachable-requires-in_default-read_page_entry
unreachable-requires-in_default-read_page_entry c =
    let ram = c.args.ram.now in
    let root = c.args.self.now.root in
    let found : table_at ram root 2 (c.number-number.result / 512) ≡ Some c.in-Some.lower = sym c.in-Some.ensures in
    no-leaf ram c.read_page_entry.result c.requires.there.0
    (ap (page_of ram) c.read_page_entry.ensures ∙ sym (ap (λ t. page_of ram (last ram t (c.number-number.result % 512))) found)
    ∙ there-at ram root c.args.vpn c.number-number.result c.requires.there.0 c.number-number.ensures.range c.number-number.ensures.value c.requires.there.1)
    c.in_default-read_page_entry.not-Leaf
