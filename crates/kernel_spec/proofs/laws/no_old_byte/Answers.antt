use Rattle.kernel_spec.proofs.laws.no_old_byte.Goals as goal
use Rattle.kernel_spec.proofs.rows.NewPages as in-new-pages
use Rattle.kernel_spec.proofs.rows.OwnBytes as in-own-bytes
use Rattle.kernel_spec.proofs.runs.Sources as in-sources

pub returns-clause-no_old_byte : goal.returns-clause-no_old_byte
returns-clause-no_old_byte c = in-new-pages.no_old_byte

pub returns-clause-only_stores_change_bytes : goal.returns-clause-only_stores_change_bytes
returns-clause-only_stores_change_bytes c = in-new-pages.only_stores_change_bytes

pub returns-clause-stores_where_user_may : goal.returns-clause-stores_where_user_may
returns-clause-stores_where_user_may c = in-new-pages.stores_where_user_may

pub returns-clause-stores_these_bytes : goal.returns-clause-stores_these_bytes
returns-clause-stores_these_bytes c = in-new-pages.stores_these_bytes

pub returns-clause-each_byte_is_of_its_own : goal.returns-clause-each_byte_is_of_its_own
returns-clause-each_byte_is_of_its_own c = in-own-bytes.each_byte_is_of_its_own

pub returns-clause-each_byte_has_its_source : goal.returns-clause-each_byte_has_its_source
returns-clause-each_byte_has_its_source c = in-sources.each_byte_has_its_source

pub returns-clause-no_old_pipe : goal.returns-clause-no_old_pipe
returns-clause-no_old_pipe c = in-new-pages.no_old_pipe

pub returns-clause-no_old_child : goal.returns-clause-no_old_child
returns-clause-no_old_child c = in-new-pages.no_old_child
