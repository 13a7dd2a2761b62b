use Rattle.agwpe_port.proofs.TextLemmas.{text_messages, text_refused}
use Rattle.agwpe_port.proofs.laws.a_text_is_no_message.Goals as goal

pub returns-clause-messages : goal.returns-clause-messages
returns-clause-messages c = text_messages

pub returns-clause-refused : goal.returns-clause-refused
returns-clause-refused c = text_refused
