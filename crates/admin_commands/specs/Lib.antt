-- Management requests, in the order in which it is best read: what is replied, which acts a call asks for, and what is promised.
pub mod Refusals
pub mod Bodies
pub mod Replies
pub mod Next
pub mod Serving
pub mod Pages
